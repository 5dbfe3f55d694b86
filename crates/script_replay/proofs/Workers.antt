-- The answers of the workers of two slices of CPUs, in one text. Serves `run_from`, `run_both`, `run_at_most_one`.
use Rattle.std.proofs.Common.{Result, Ok, Err, IfOk, Bool, ◌≡◌, ◌∙◌, ℕ, ◌+◌, List, [], ◌∷◌, ◌++◌, length, get_or, append_assoc, append-nil, ap, refl, subst, sym, arith}
use Rattle.std.specs.Prelude.{Vec, slice_set}
use Rattle.mem_system.specs.{KnownSystem, CpuInRun}
use Rattle.step_rules.specs.After.{Run}
use Rattle.script_lines.specs.declared.line.Line.{Line}
use Rattle.script_replay.specs.{KnownWorker, ServesOwn, worker, AreAllAnswers, heading, workers_from}

-- the workers of two slices
pub workers_both : (p : ℕ) (front back : List CpuInRun) (lines : List Line) (numbered : Bool)
    → workers_from p (front ++ back) lines numbered ≡ workers_from p front lines numbered ++ workers_from (p + length front) back lines numbered
workers_both p [] back lines numbered = ap (λ (n : ℕ). workers_from n back lines numbered) (let e : p ≡ p + 0 = omega arith in e)
workers_both p (c ∷ front) back lines numbered =
    let e : (p + 1) + length front ≡ p + length (c ∷ front) = omega arith in
    ap (λ (ws : List KnownWorker). worker p c lines numbered ∷ ws)
    (workers_both (p + 1) front back lines numbered
    ∙ ap (λ (n : ℕ). workers_from (p + 1) front lines numbered ++ workers_from n back lines numbered) e)

-- the text of one worker
abbrev pub Alone : KnownSystem → KnownWorker → CpuInRun → List ℕ → Type 0
Alone on w c text = (told : Run) × (own : List ℕ) × ServesOwn on w c told own × (text ≡ heading w.cpu_number ++ own)

pub answers_alone : (on : KnownSystem) (w : KnownWorker) (c : CpuInRun) (text : List ℕ) → Alone on w c text
    → (told : List Run) × AreAllAnswers on (w ∷ []) (c ∷ []) told text
answers_alone on w c text is = (is.0 ∷ [], (is.1, [], is.2, refl, is.3 ∙ sym (append-nil (heading w.cpu_number ++ is.1))))

-- the texts of two slices' workers
answers_both : (on : KnownSystem) (ws vs : List KnownWorker) (cs ds : List CpuInRun) (ts us : List Run) (a b : List ℕ) → AreAllAnswers on ws cs ts a
    → AreAllAnswers on vs ds us b → AreAllAnswers on (ws ++ vs) (cs ++ ds) (ts ++ us) (a ++ b)
answers_both on [] vs [] ds [] us a b none more = subst (λ (l : List ℕ). AreAllAnswers on vs ds us (l ++ b)) (sym none) more
answers_both on [] vs [] ds (t ∷ ts) us a b none more = absurd none
answers_both on [] vs (c ∷ cs) ds ts us a b none more = absurd none
answers_both on (w ∷ ws) vs [] ds ts us a b none more = absurd none
answers_both on (w ∷ ws) vs (c ∷ cs) ds [] us a b none more = absurd none
answers_both on (w ∷ ws) vs (c ∷ cs) ds (t ∷ ts) us a b all more = (
  all.0,
  all.1 ++ b,
  all.2,
  answers_both on ws vs cs ds ts us all.1 b all.3 more,
  ap (λ (l : List ℕ). l ++ b) all.4 ∙ append_assoc (heading w.cpu_number ++ all.0) all.1 b,
)

-- the answers of some workers
abbrev pub Answers : KnownSystem → List KnownWorker → List CpuInRun → List ℕ → Type 0
Answers on ws cs text = (told : List Run) × AreAllAnswers on ws cs told text

pub both_answer : (on : KnownSystem) (ws vs : List KnownWorker) (cs ds : List CpuInRun) (a b text : List ℕ) → Answers on ws cs a → Answers on vs ds b
    → text ≡ a ++ b → Answers on (ws ++ vs) (cs ++ ds) text
both_answer on ws vs cs ds a b text front back is =
    (front.0 ++ back.0, subst (AreAllAnswers on (ws ++ vs) (cs ++ ds) (front.0 ++ back.0)) (sym is) (answers_both on ws vs cs ds front.0 back.0 a b front.1 back.1))

-- the answers of the workers of a slice, which was cut in two
pub halves_answer : {Z E : Type 0} (on : KnownSystem) (p second : ℕ) (cpus front back after f b : List CpuInRun) (lines : List Line) (numbered : Bool)
    (r : Result (Vec ℕ Z) E) → cpus ≡ front ++ back → second ≡ p + length front → after ≡ f ++ b
    → IfOk r (λ text. Answers on (workers_from p front lines numbered ++ workers_from second back lines numbered) (f ++ b) text.items)
    → IfOk r (λ text. Answers on (workers_from p cpus lines numbered) after text.items)
halves_answer on p second cpus front back after f b lines numbered (Ok v) cut is left both =
    let ws : workers_from p front lines numbered ++ workers_from second back lines numbered ≡ workers_from p cpus lines numbered =
    ap (λ (n : ℕ). workers_from p front lines numbered ++ workers_from n back lines numbered) is
    ∙ (sym (workers_both p front back lines numbered) ∙ ap (λ (l : List CpuInRun). workers_from p l lines numbered) (sym cut)) in
    subst (λ (x : List KnownWorker × List CpuInRun). Answers on x.0 x.1 v.items) (λ i. (ws i, sym left i)) both
halves_answer on p second cpus front back after f b lines numbered (Err e) cut is left both = tt

-- the answers of the only worker
pub only_answers : {Z E : Type 0} (on : KnownSystem) (p : ℕ) (cpus : List CpuInRun) (c d : CpuInRun) (lines : List Line) (numbered : Bool)
    (r : Result (Vec ℕ Z) E) → length cpus ≡ 1 → c ≡ get_or cpus 0 c → IfOk r (λ text. Alone on (worker p c lines numbered) d text.items)
    → IfOk r (λ text. Answers on (workers_from p cpus lines numbered) (slice_set cpus 0 d) text.items)
only_answers on p [] c d lines numbered r one read is = absurd (omega (arith, one))
only_answers on p (x ∷ []) c d lines numbered (Ok v) one read is =
    subst (λ (z : CpuInRun). Answers on (worker p z lines numbered ∷ []) (d ∷ []) v.items) read (answers_alone on (worker p c lines numbered) d v.items is)
only_answers on p (x ∷ []) c d lines numbered (Err e) one read is = tt
only_answers on p (x ∷ y ∷ cpus) c d lines numbered r one read is = absurd (omega (arith, one))
