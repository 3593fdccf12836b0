-- A text under a rule that only UTF-8 meets: the rule is judged first, and whether the text is UTF-8 only where it fails. Assumes nothing.
use Prim.Native.Nat.{ℕ}
use mathlib.Core.Path.{◌≡◌, refl}
use mathlib.Core.Bool.{Bool, true, false, cond, ◌||◌}
use mathlib.Core.List.{List, [], ◌∷◌}
use Rattle.model_text.specs.Utf8.{utf8}
use Rattle.model_text.specs.Printable.{is_marks}
use Rattle.model_text.specs.Stamp.{takes_stamp}
use Rattle.model_text.proofs.Laws.{takes_is, marks_is}
use Rattle.model_frame.specs.Frame.{Fault, bad_text, bad_timestamp, bad_marks}
use Rattle.model_frame.specs.Parse.{Res, ok, bad, and_then, pure, fail, is_empty, read_blob, read_text}
use Rattle.model_frame.specs.Reading.{read_stamp, read_stamp_or_none, read_marks}

module _ (rule : List ℕ → Bool) (f : Fault) where
  abbrev ruled : List ℕ → Res (List ℕ)
  ruled s = and_then (read_text s) (λ t. cond (rule t) (pure t) (fail f))

  judge : (x s : List ℕ) (u k : Bool) → rule x ≡ k → (k ≡ true → u ≡ true) → and_then (cond u (pure x) (fail bad_text) s) (λ t. cond (rule t) (pure t) (fail f)) ≡ cond k (ok x s) (bad (cond u f bad_text))
  judge x s true true e h = rw e
  judge x s true false e h = rw e
  judge x s false true e h = let z : false ≡ true = h refl in cc
  judge x s false false e h = refl

  rule_judged : (s : List ℕ) {x s' : List ℕ} → ((x : List ℕ) → rule x ≡ true → utf8 x ≡ true) → read_blob s ≡ ok x s' → ruled s ≡ cond (rule x) (ok x s') (bad (cond (utf8 x) f bad_text))
  unfolding read_text
  rule_judged s {x} {s'} h e = rw e (judge x s' (utf8 x) (rule x) refl (h x))

  rule_fault : (s : List ℕ) {e : Fault} → read_blob s ≡ bad e → ruled s ≡ bad e
  unfolding read_text
  rule_fault s h = rw h

pub none_or_coded : (version : ℕ) (s : List ℕ) → (is_empty s || takes_stamp version s) ≡ true → utf8 s ≡ true
unfolding utf8
none_or_coded version [] h = refl
none_or_coded version (x ∷ xs) h = (takes_is version (x ∷ xs) h).coded

-- the three rules
pub stamp_judged : (version : ℕ) (s : List ℕ) {x s' : List ℕ} → read_blob s ≡ ok x s' → read_stamp version s ≡ cond (takes_stamp version x) (ok x s') (bad (cond (utf8 x) bad_timestamp bad_text))
unfolding read_stamp
stamp_judged version s e = rule_judged (takes_stamp version) bad_timestamp s (λ x t. (takes_is version x t).coded) e

pub stamp_fault : (version : ℕ) (s : List ℕ) {e : Fault} → read_blob s ≡ bad e → read_stamp version s ≡ bad e
unfolding read_stamp
stamp_fault version s e = rule_fault (takes_stamp version) bad_timestamp s e

pub none_judged : (version : ℕ) (s : List ℕ) {x s' : List ℕ} → read_blob s ≡ ok x s' → read_stamp_or_none version s ≡ cond (is_empty x || takes_stamp version x) (ok x s') (bad (cond (utf8 x) bad_timestamp bad_text))
unfolding read_stamp_or_none
none_judged version s e = rule_judged (λ x. is_empty x || takes_stamp version x) bad_timestamp s (none_or_coded version) e

pub none_fault : (version : ℕ) (s : List ℕ) {e : Fault} → read_blob s ≡ bad e → read_stamp_or_none version s ≡ bad e
unfolding read_stamp_or_none
none_fault version s e = rule_fault (λ x. is_empty x || takes_stamp version x) bad_timestamp s e

pub marks_judged : (s : List ℕ) {x s' : List ℕ} → read_blob s ≡ ok x s' → read_marks s ≡ cond (is_marks x) (ok x s') (bad (cond (utf8 x) bad_marks bad_text))
unfolding read_marks
marks_judged s e = rule_judged is_marks bad_marks s (λ x t. (marks_is x t).coded) e

pub marks_fault : (s : List ℕ) {e : Fault} → read_blob s ≡ bad e → read_marks s ≡ bad e
unfolding read_marks
marks_fault s e = rule_fault is_marks bad_marks s e
