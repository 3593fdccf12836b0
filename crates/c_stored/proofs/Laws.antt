-- The message with a number is the first from that number on, since stored numbers rise; what writing its two parts tells. Assumes nothing.
use Rattle.std.proofs.Common.{◌≡◌, ℕ, suc, ◌+◌, ◌^◌, ◌<◌, ◌≤◌, max, Bool, true, false, cond, leb, eqb, List, [], ◌∷◌, ◌++◌, length, refl, sym, ap, ◌∙◌, arith, length-append, le-leb, leb-true, leb-false, ne_eqb}
use borrow.Author.Tests.{lt-leb, eqb-false}
use Rattle.std.specs.Prelude as prelude
use Rattle.std.proofs.Math.Option.{none, some}
use Rattle.model_frame.specs.Refusal
use Rattle.model_session.specs.Session.{Msg, Rising}
use Rattle.model_session.specs.Summary.{numbered_from}
use Rattle.frame_reader.specs.Answers.{span_of}
use Rattle.store_log.specs.Log.{rest_of}
use Rattle.store_log.proofs.Lawful.{Small}
use Rattle.store_place.specs.Place.{rest_in}
use Rattle.store_areas.proofs.Holding.{holdable_at}
use Rattle.store_sessions.specs.Answers.{rest_at, FromAt}
use Rattle.base_laws.specs.Wrote.{Wrote}
use Rattle.base_laws.proofs.Writes.{wrote_on}
use Rattle.store_areas.specs.declared.Shape.{Shape}
use Rattle.store_areas.specs.Areas.{in_use, place_at}
use Rattle.store_sessions.specs.declared.Message.{Message}
use Rattle.c_code.specs.Codes.{done_code, refusal_code}
use Rattle.base_refusals.specs.declared.Refusal as Refused
use Rattle.store_sessions.specs.Answers.{Answered}
use Rattle.store_lowest.specs.Lowest.{lowest_is}
use Rattle.c_store.specs.declared.StoreAnswer.{StoreAnswer}
use Rattle.c_store.specs.Total.{answered}
use Rattle.c_stored.specs.Stored.{lowest_answer, message_of, first_is, found_text, TellsText, TellsMessage}

-- ---- the message with a number

none_after : (n low next : ℕ) (ms : List Msg) → n < low → Rising low next ms → message_of n ms ≡ none
none_after n low next [] h r = refl
none_after n low next (m ∷ ms) h r =
    rw (ne_eqb m.num n (λ e. omega (arith, h, r.0, e))) (none_after n (suc m.num) next ms (omega (arith, h, r.0)) r.3)

pub first_from : (n low next : ℕ) (ms : List Msg) → 1 ≤ low → Rising low next ms → message_of n ms ≡ first_is n (numbered_from (max n 1) ms)
first_from n low next [] h r = refl
first_from n low next (m ∷ ms) h r = go (leb (max n 1) m.num) refl (first_from n (suc m.num) next ms (omega arith) r.3)
  where
    go : (t : Bool) → leb (max n 1) m.num ≡ t → message_of n ms ≡ first_is n (numbered_from (max n 1) ms)
        → message_of n (m ∷ ms) ≡ first_is n (cond t (m ∷ numbered_from (max n 1) ms) (numbered_from (max n 1) ms))
    go true t ih = is (eqb m.num n) refl
      where
        is : (u : Bool) → eqb m.num n ≡ u → cond u (some m.text) (message_of n ms) ≡ cond u (some m.text) none
        is true e = refl
        is false e = none_after n (suc m.num) next ms (omega (arith, leb-true (max n 1) m.num t, eqb-false m.num n e)) r.3
    go false t ih = rw (ne_eqb m.num n (λ e. omega (arith, h, r.0, e, leb-false (max n 1) m.num t))) ih

-- no message is left to be read from there on
pub none_there : {s : Shape} {w b : List ℕ} {i low left dist : ℕ} (n : ℕ) → FromAt s w b i low left dist → low ≡ max n 1 → left ≡ 0 → none ≡ first_is n (numbered_from (max n 1) (place_at s w b i).stored.session.messages)
unfolding rest_at rest_in rest_of
none_there n f e z = rw (sym e, sym f.is, z) refl

-- ---- its two parts written

pub no_room : (x y out : List ℕ) {r : ℕ} → length out < length x + length y → r ≡ refusal_code Refusal.no_room 0 → TellsText (x ++ y) out out r
no_room x y out h e =
    let less : leb (length (x ++ y)) (length out) ≡ false = lt-leb _ _ (omega (arith, h, length-append x y)) in
    record { answer = rw less e; area = rw less refl }

pub both_told : {x y out o p : List ℕ} {k e r : ℕ} → length x + length y ≤ length out → Wrote out 0 x o k → Wrote o k y p e → r ≡ done_code e → TellsText (x ++ y) out p r
both_told {x} {y} {out} {e = e} h v w q =
    let all = wrote_on v w in
    let room : leb (length (x ++ y)) (length out) ≡ true = le-leb _ _ (omega (arith, h, length-append x y)) in
    let long : e ≡ length (x ++ y) = omega (arith, all.past) in
    record { answer = rw room (q ∙ ap done_code long); area = rw room all.bytes }

-- ---- any place

module _ (s : Shape) (w b : List ℕ) (i n : ℕ) (o : prelude.Option Message) (used : in_use s w b i ≡ true) (words : Small (2 ^ 64) w) (bytes : Small 256 b)
    (found : found_text b o ≡ first_is n (numbered_from (max n 1) (place_at s w b i).stored.session.messages)) where
  is_found : message_of n (place_at s w b i).stored.session.messages ≡ found_text b o
  is_found = first_from n 1 (place_at s w b i).stored.session.next_out _ (omega arith) (holdable_at s w b i words bytes).msgs_rise ∙ sym found

  pub told : {m : Message} {out out' : List ℕ} {r : ℕ} → o ≡ prelude.Some m → TellsText (span_of b m.first ++ span_of b m.second) out out' r → TellsMessage s w b i n out out' r
  told e t = record { answer = rw (used, is_found, e) t.answer; area = rw (used, is_found, e) t.area }

  pub absent : {out : List ℕ} {r : ℕ} → o ≡ prelude.None → r ≡ 0 → TellsMessage s w b i n out out r
  absent e z = record { answer = rw (used, is_found, e) z; area = rw (used, is_found, e) refl }

-- ---- the lowest number

pub lowest_told : {x : Answered ℕ} (o : prelude.Result ℕ Refused.Refusal) {a : StoreAnswer} → lowest_is o ≡ x → a ≡ answered o → a ≡ lowest_answer x
lowest_told o e f = f ∙ go o ∙ ap lowest_answer e
  where
    go : (o : prelude.Result ℕ Refused.Refusal) → answered o ≡ lowest_answer (lowest_is o)
    go (prelude.Ok n) = refl
    go (prelude.Err r) = refl
