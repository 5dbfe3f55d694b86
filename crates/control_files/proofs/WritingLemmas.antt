-- What is written of a limit is read back. Serves `write_limit`.
use Rattle.std.proofs.Common.{◌≡◌, ℕ, ◌*◌, ◌^◌, ◌<◌, [], refl, sym, arith, append-nil}
use Rattle.std.specs.Prelude.{Some, None, codes}
use Rattle.std.specs.Fmt.{decimal}
use Rattle.std.specs.Int.{div_ceil}
use Rattle.std.specs.Str.Parse.{IsNumeral, digits_value}
use Rattle.std.proofs.lemmas.Bool.Decides.{nat_tests}
use Rattle.std.proofs.lemmas.Fmt.{decimal_is_IsNumeral}
use Rattle.control_files.specs.{pages_text, limit_text, IsAmount, ReadsAs}

whole_pages : (pages : ℕ) → div_ceil (pages * 4096) 4096 ≡ pages
whole_pages pages = omega arith

decimal_amount : (n : ℕ) → n < 2 ^ 64 → IsAmount (decimal n) n
decimal_amount n small =
    let parts : IsNumeral 10 (decimal n) × (digits_value 10 (decimal n) ≡ n) = decimal_is_IsNumeral n small in
    record {
      digits = decimal n;
      suffix = [];
      factor = 1;
      parts = sym (append-nil (decimal n));
      numeral = parts.0;
      suffix_is = refl;
      value =
          omega (arith, parts.1);
    }

pub pages_read_back : (pages : ℕ) → pages < 2 ^ 32 → ReadsAs (pages_text pages) (Some pages)
pages_read_back pages small =
    let in_range : pages * 4096 < 2 ^ 64 = omega arith in
    record {
      value = Some (pages * 4096);
      grammar = record {
        before = [];
        word = decimal (pages * 4096);
        after = codes "\n";
        parts = refl;
        spaces_before = refl;
        spaces_after =
            refl;
        word_is = decimal_amount (pages * 4096) in_range;
      };
      in_range = in_range;
      pages = rw (whole_pages pages) (grind (arith, nat_tests));
    }

pub max_reads_back : ReadsAs (limit_text None) None
max_reads_back = record {
  value = None;
  grammar = record { before = []; word = codes "max"; after = codes "\n"; parts = refl; spaces_before = refl; spaces_after = refl; word_is = refl };
  in_range = tt;
  pages = refl;
}
