-- A session, turn by turn.
use Rattle.std.proofs.Common.{◌≡◌, ◌∙◌, ℕ, ◌+◌, List, [], ◌∷◌, ◌++◌, Option, None, ap, append_assoc, append-nil, arith, length, length-append, refl, subst, sym}
use Rattle.std.specs.Io.KnownBytes.{Appends, prepend_known}
use Rattle.std.proofs.KnownBytes.{Appends-nil, Appends-trans, prepend_known-nil}
use Rattle.std.specs.Prelude.{if◌then◌else◌, ◌==◌}
use Rattle.std.specs.Io.Buffered.{reader_buffer, reader_capacity, reader_inner, reader_remaining}
use Rattle.std.specs.declared.io.buffered.BufReader.{BufReader}
use Rattle.zone_blocks.specs.declared.config.Config.{Config}
use Rattle.boot_words.specs.Tables.{KnownTable}
use Rattle.script_replay.specs.Lines.{SystemState}
use Rattle.line_server.specs.declared.fault.ServeFault.{ServeFault}
use Rattle.line_server.specs.declared.form.SessionForm.{SessionForm}
use Rattle.line_server.specs.{SessionTerms, session_terms, KeepsTerms, KnownServer, terms_of, ReadsLine, AnswersTurn, Turn, turn_text, AnswersTurns}
use Rattle.line_server.specs.{EndsHere, FailsSession, FailsTurn, HoldsSession, ReadsTurns, ServesSession, WritesOne, session_text}

-- ---- one turn more

reads_more : (turns : List Turn) (turn : Turn) (a b c : Option (List ℕ)) → ReadsTurns turns a b → ReadsLine turn.text b c → ReadsTurns (turns ++ turn ∷ []) a c
reads_more [] turn a b c same one = (c, subst (λ x. ReadsLine turn.text x c) same one, refl)
reads_more (t ∷ turns) turn a b c all one = (all.0, all.1, reads_more turns turn all.0 b c all.2 one)

answers_more : (on : SessionTerms) (sizes : Config) (number : ℕ) (turns : List Turn) (turn : Turn) (last : ℕ) (s m e : SystemState)
    → last ≡ number + length turns → AnswersTurns on sizes number turns s m → AnswersTurn on sizes last turn m e
    → AnswersTurns on sizes number (turns ++ turn ∷ []) s e
answers_more on sizes number [] turn last s m e at same one =
    let is : last ≡ number = omega (arith, at) in
    (e, subst (λ x. AnswersTurn on sizes number turn x e) same (subst (λ (n : ℕ). AnswersTurn on sizes n turn m e) is one), refl)
answers_more on sizes number (t ∷ turns) turn last s m e at all one =
    let next : last ≡ (number + 1) + length turns = omega (arith, at) in
    (all.0, all.1, answers_more on sizes (number + 1) turns turn last all.0 m e next all.2 one)

text_more : (turns : List Turn) (turn : Turn) → session_text (turns ++ turn ∷ []) ≡ session_text turns ++ turn_text turn
text_more [] turn = append-nil (turn_text turn)
text_more (t ∷ turns) turn =
    ap (λ (l : List ℕ). turn_text t ++ l) (text_more turns turn) ∙ sym (append_assoc (turn_text t) (session_text turns) (turn_text turn))

-- what was read, answered and written so far, in so many turns
pub record SoFar (on : SessionTerms) (sizes : Config) (count : ℕ) (input left : Option (List ℕ)) (before after : SystemState)
    (output now : Option (List ℕ)) : Type 0 where
  pub turns : List Turn
  pub counted : length turns ≡ count
  pub reads : ReadsTurns turns input left
  pub answers : AnswersTurns on sizes 1 turns before after
  pub written : Appends output now (session_text turns)

module _ (on : SessionTerms) (sizes : Config) (count : ℕ) (input left : Option (List ℕ)) (before between : SystemState) (output middle : Option (List ℕ)) where
  holds : (so_far : SoFar on sizes count input left before between output middle) → HoldsSession on sizes so_far.turns input left before between output middle
  holds so_far = record {
    reads = so_far.reads;
    answers = so_far.answers;
    written = so_far.written;
  }

  pub one_more : (after : Option (List ℕ)) (e : SystemState) (now : Option (List ℕ)) → SoFar on sizes count input left before between output middle
      → WritesOne on sizes (count + 1) left after between e middle now → SoFar on sizes (count + 1) input after before e output now
  one_more after e now so_far one =
      let long = length-append so_far.turns (one.turn ∷ []) in
      let at = so_far.counted in record {
        turns = so_far.turns ++ one.turn ∷ [];
        counted = omega (arith, long, at);
        reads = reads_more so_far.turns one.turn input left after so_far.reads one.reads;
        answers = answers_more on sizes 1 so_far.turns one.turn (count + 1) before between e (omega (arith, at)) so_far.answers one.answers;
        written = subst (Appends output now) (sym (text_more so_far.turns one.turn))
            (Appends-trans output middle now (session_text so_far.turns) (turn_text one.turn) so_far.written one.written);
      }

  pub session_ended : (e : SystemState) (now : Option (List ℕ)) → SoFar on sizes count input left before between output middle
      → EndsHere left between e middle now → ServesSession on sizes input before e output now
  session_ended e now so_far end = record {
    turns = so_far.turns;
    left = left;
    holds = subst (λ (x : SystemState). HoldsSession on sizes so_far.turns input left before x output now) (sym end.stays)
        (subst (λ (x : Option (List ℕ)). HoldsSession on sizes so_far.turns input left before between output x) (sym end.silent) (holds so_far));
    ends = end.ends;
  }

  pub session_failed : (e : SystemState) (now : Option (List ℕ)) (fault : ServeFault) → SoFar on sizes count input left before between output middle
      → FailsTurn on sizes (count + 1) between e middle now fault → FailsSession on sizes input before e output now fault
  session_failed e now fault so_far fails = record {
    turns = so_far.turns;
    left = left;
    between = between;
    middle = middle;
    holds = holds so_far;
    fails = subst (λ (n : ℕ). FailsTurn on sizes (n + 1) between e middle now fault) (sym so_far.counted) fails;
  }

-- nothing was read yet
pub none_yet : (on : SessionTerms) (sizes : Config) (input : Option (List ℕ)) (before : SystemState) (output : Option (List ℕ))
    → SoFar on sizes 0 input input before before output output
none_yet on sizes input before output = record { turns = []; counted = refl; reads = refl; answers = refl; written = Appends-nil output }

-- what holds on the terms of now holds on those of the beginning
pub at_first : (frames : KnownTable) (s t : KnownServer) (P : SessionTerms → Config → Type 0) → KeepsTerms s t
    → P (terms_of frames t) t.sizes → P (terms_of frames s) s.sizes
at_first frames s t P keeps is =
    subst (λ (f : SessionForm). P (session_terms frames f) s.sizes) keeps.form (subst (P (terms_of frames t)) keeps.sizes is)

-- a session that failed before its first line
pub none_served : (on : SessionTerms) (sizes : Config) (input : Option (List ℕ)) (before : SystemState) (output : Option (List ℕ)) (fault : ServeFault)
    → FailsTurn on sizes 1 before before output output fault → FailsSession on sizes input before before output output fault
none_served on sizes input before output fault fails =
    session_failed on sizes 0 input input before before output output before output fault (none_yet on sizes input before output) fails

-- a new buffer before a reader has the bytes of the reader
pub buffer_is_new : {T A : Type 0} (remaining : T → Option (List ℕ)) (r : BufReader T A) (inner : T) → reader_inner r ≡ inner → reader_buffer r ≡ []
    → reader_capacity r ≡ 8192 → reader_remaining remaining r ≡ remaining inner
buffer_is_new remaining r inner is empty capacity =
    ap (λ (n : ℕ). if n == 0 then None else prepend_known (reader_buffer r) (remaining r.inner)) capacity
    ∙ ap (λ (l : List ℕ). prepend_known l (remaining r.inner)) empty ∙ prepend_known-nil (remaining r.inner) ∙ ap remaining is
