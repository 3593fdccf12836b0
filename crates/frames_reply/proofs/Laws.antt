-- The text of an answer. Assumes nothing.
use mathlib.Core.Path.{◌≡◌, refl, sym, ap, subst, ◌∙◌}
use mathlib.Core.Bool.{Bool, true, false, cond}
use mathlib.Core.List.{List, []}
use mathlib.Core.Option.{Option, none, some}
use Prim.Native.Nat.{ℕ, ◌+◌, ◌-◌, ◌*◌, ◌≤◌}
use native.Mathlib.Omega.{arith}
use borrow.Author.Tests.{ltb-false, eq-eqb, ne_eqb}
use lib.Dec.{ltb, eqb}
use lib.ListN.{length, take, drop}
use lib.Seq.{take_at, length-take-le}
use Rattle.model_text.specs.Hex.{hex_of, refusal_text}
use Rattle.model_text.proofs.HexBack.{length_hex}
use Rattle.model_frame.specs.Frame.{Frame}
use Rattle.model_frame.specs.Reading.{max_body}
use Rattle.model_frame.specs.Writing.{body_bytes, encode, fine, WriteOutcome, wrote, refused, write_outcome, area_after, WriteAnswer, took, write_refusal, write_answer}
use Rattle.model_standby.specs.Answer as the-answer
use Rattle.base_laws.proofs.Little.{write_is}
use Rattle.base_hex.specs.Lines.{WroteFront, Puts}
use Rattle.std.specs.Prelude.{Ok, Err}
use Rattle.frame_writer.specs.Encoding.{error_number, Encoded}
use Rattle.frame_writer.specs.declared.EncodeError.{EncodeError}
use Rattle.standby_state.specs.declared.Answer.{Answer}
use Rattle.standby_state.specs.Answers.{frame_by, answer_of}
use Rattle.standby_state.specs.Exact.{Exact}
use Rattle.standby_reply.specs.Replies.{frame_for}
use Rattle.standby_reply.proofs.Exact.{exact_frame}
use Rattle.frames_reply.specs.Texts.{outcome_text, answer_text, record_text}

-- ---- what was written

abbrev told : WriteAnswer → ℕ
told (took n) = n
told (write_refusal n) = n

abbrev tag : WriteAnswer → ℕ
tag (took n) = 0
tag (write_refusal n) = 1

-- how many bytes an outcome writes
abbrev size : WriteOutcome → ℕ
size (wrote bs) = length bs
size (refused n) = 0

room : (v : ℕ) (f : Option Frame) (k : ℕ) → size (write_outcome v f k) ≤ k
unfolding write_outcome
room v none k = omega arith
room v (some f) k = go (fine v f) (ltb max_body (length (body_bytes f))) (ltb k (length (encode f))) refl
  where
    go : (a b t : Bool) → ltb k (length (encode f)) ≡ t → size (cond a (cond b (refused 1) (cond t (refused 9) (wrote (encode f)))) (refused 8)) ≤ k
    go false b t e = omega arith
    go true true t e = omega arith
    go true false true e = omega arith
    go true false false e = ltb-false k (length (encode f)) e

-- the bytes stand at the area's start
front : (o : WriteOutcome) (n : ℕ) (before after : List ℕ) → size o ≤ length before → took n ≡ write_answer o → after ≡ area_after o before → o ≡ wrote (take n after)
front (wrote bs) n before after h e ea =
    let fit : 0 + length bs ≤ length before = omega arith in
    sym (ap (λ (l : List ℕ). wrote (take n l)) (ea ∙ write_is before 0 bs fit) ∙ ap wrote (take_at bs (drop (0 + length bs) before) n (sym (ap told e))))
front (refused m) n before after h e ea = absurd (omega (arith, ap tag e))

told_no : (o : WriteOutcome) (m : ℕ) → write_refusal m ≡ write_answer o → refusal_text m ≡ outcome_text o
told_no (wrote bs) m e = absurd (omega (arith, ap tag e))
told_no (refused k) m e = ap (λ (x : ℕ). refusal_text x) (ap told e)

module _ (v : ℕ) (f : Option Frame) {before after : List ℕ} where
  pub took_front : (n : ℕ) → Encoded v f before after (Ok n) → write_outcome v f (length before) ≡ wrote (take n after)
  took_front n e = front (write_outcome v f (length before)) n before after (room v f (length before)) e.answer e.area

  pub took_fits : (n : ℕ) → Encoded v f before after (Ok n) → n ≤ length before
  took_fits n e = go (write_outcome v f (length before)) (room v f (length before)) e.answer
    where
      go : (o : WriteOutcome) → size o ≤ length before → took n ≡ write_answer o → n ≤ length before
      go (wrote bs) h q = omega (arith, ap told q)
      go (refused m) h q = absurd (omega (arith, ap tag q))

  pub put_digits : (n : ℕ) (out : List ℕ) {out' : List ℕ} → length after ≡ length before → Encoded v f before after (Ok n) → WroteFront (hex_of (take (n - 0) (drop 0 after))) out out' → Puts (outcome_text (write_outcome v f (length before))) out out' (2 * n)
  put_digits n out {out'} same e h =
      let fit : n ≤ length after = omega (arith, took_fits n e) in
      let cut : n - 0 ≡ n = omega arith in
      let long : 2 * n ≡ length (hex_of (take n after)) = sym (length_hex (take n after) ∙ ap (λ (k : ℕ). 2 * k) (length-take-le n after fit)) in
      subst (λ (o : WriteOutcome). Puts (outcome_text o) out out' (2 * n)) (sym (took_front n e))
      (record { count = long; wrote = subst (λ (k : ℕ). WroteFront (hex_of (take k after)) out out') cut h })

  pub put_no : (e : EncodeError) (m : ℕ) {out out' : List ℕ} {n : ℕ} → m ≡ error_number e → Encoded v f before after (Err e) → Puts (refusal_text m) out out' n → Puts (outcome_text (write_outcome v f (length before))) out out' n
  put_no x m {out} {out'} {n} q e h = subst (λ (t : List ℕ). Puts t out out' n) (told_no (write_outcome v f (length before)) m (ap write_refusal q ∙ e.answer)) h

-- ---- the text of an answer

module _ (v room : ℕ) (b : List ℕ) (a : Answer) where
  abbrev By : Bool → Bool → List ℕ
  By t u = cond t (cond u [] (outcome_text (write_outcome v (frame_for b a) room))) (refusal_text a.refusal)

  -- the record of an answer has that answer's text
  pub exact_text : Exact b a → record_text v room b a ≡ answer_text v room (answer_of b a)
  exact_text x = go (eqb a.refusal 0) (eqb a.kind 0) refl refl
    where
      go : (t u : Bool) → eqb a.refusal 0 ≡ t → eqb a.kind 0 ≡ u → By t u ≡ answer_text v room (cond t (cond u the-answer.done (the-answer.reply (frame_by b a))) (the-answer.refused a.refusal))
      go true true p q = refl
      go true false p q =
          ap (λ (f : Option Frame). outcome_text (write_outcome v f room))
          (exact_frame b a x (λ j. cond (p j) (cond (q j) the-answer.done (the-answer.reply (frame_by b a))) (the-answer.refused a.refusal)))
      go false u p q = refl

  module _ (out : List ℕ) where
    pub text_done : a.refusal ≡ 0 → a.kind ≡ 0 → Puts (record_text v room b a) out out 0
    text_done e k = subst (λ (t : List ℕ). Puts t out out 0) (sym (λ j. By (eq-eqb a.refusal 0 e j) (eq-eqb a.kind 0 k j))) (record { count = refl; wrote = refl })

    pub text_reply : a.refusal ≡ 0 → (a.kind ≡ 0 → ⊥) → {out' : List ℕ} {n : ℕ} → Puts (outcome_text (write_outcome v (frame_for b a) room)) out out' n → Puts (record_text v room b a) out out' n
    text_reply e k {out'} {n} h = subst (λ (t : List ℕ). Puts t out out' n) (sym (λ j. By (eq-eqb a.refusal 0 e j) (ne_eqb a.kind 0 k j))) h

    pub text_refused : (a.refusal ≡ 0 → ⊥) → {out' : List ℕ} {n : ℕ} → Puts (refusal_text a.refusal) out out' n → Puts (record_text v room b a) out out' n
    text_refused e {out'} {n} h = subst (λ (t : List ℕ). Puts t out out' n) (sym (ap (λ (t : Bool). By t (eqb a.kind 0)) (ne_eqb a.refusal 0 e))) h
