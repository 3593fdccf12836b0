-- A batch of a whole sending by its parts: what stands before the messages, those that it takes, what stands after them. Assumes nothing.
use mathlib.Core.Path.{◌≡◌, refl, sym, ap, ◌∙◌}
use mathlib.Core.Bool.{Bool, true, false, cond}
use mathlib.Core.List.{List, [], ◌∷◌, ◌++◌, append_assoc, append-nil}
use mathlib.Core.Option.{some}
use Prim.Native.Nat.{ℕ, suc, ◌+◌, ◌≤◌}
use native.Mathlib.Omega.{arith}
use lib.ListN.{length}
use lib.Dec.{ltb, leb}
use borrow.Author.Tests.{le-leb, leb-true}
use Rattle.model_frame.specs.Frame.{Change}
use Rattle.model_session.specs.Session.{Session, Msg}
use Rattle.model_session.specs.Whole.{send_msg}
use Rattle.model_session.specs.Sender.{Cut, cut_batch, messages_from}
use Rattle.model_session.specs.Summary.{numbered_from}
use Rattle.active_messages.proofs.Numbers.{Ascends}
use Rattle.active_messages.specs.Cut.{taken, left_over, next_after, closing_after, goes_from}

regroup : (p q r s : List Change) → (p ++ q) ++ (r ++ s) ≡ p ++ ((q ++ r) ++ s)
regroup p q r s = simp append_assoc

module _ (limit : ℕ) (a : Session) where
  abbrev pub by_parts : List Change → ℕ → ℕ → List Msg → Cut
  by_parts before sent next ms =
      record {
        changes = before ++ (taken limit sent next ms ++ closing_after a (next_after limit sent next ms) (left_over limit sent ms));
        goes_on = goes_from (next_after limit sent next ms) (left_over limit sent ms);
      }

  pub cut_is : (before : List Change) (sent next : ℕ) (ms : List Msg) → cut_batch limit a before sent next ms ≡ by_parts before sent next ms
  cut_is before sent next [] = refl
  cut_is before sent next (m ∷ ms) = go (ltb limit sent) (cut_is (before ++ send_msg next m) (sent + length m.text) (suc m.num) ms)
    where
      go : (t : Bool) → cut_batch limit a (before ++ send_msg next m) (sent + length m.text) (suc m.num) ms ≡ by_parts (before ++ send_msg next m) (sent + length m.text) (suc m.num) ms
          → cond t (record { changes = before; goes_on = some next }) (cut_batch limit a (before ++ send_msg next m) (sent + length m.text) (suc m.num) ms)
          ≡ record {
            changes =
                before ++ (cond t [] (send_msg next m ++ taken limit (sent + length m.text) (suc m.num) ms)
                ++ closing_after a (cond t next (next_after limit (sent + length m.text) (suc m.num) ms)) (cond t (m ∷ ms) (left_over limit (sent + length m.text) ms)));
            goes_on = goes_from (cond t next (next_after limit (sent + length m.text) (suc m.num) ms)) (cond t (m ∷ ms) (left_over limit (sent + length m.text) ms));
          }
      go true ih = rw (append-nil before)
      go false ih =
          ih
          ∙ ap (λ (cs : List Change). record { changes = cs; goes_on = goes_from (next_after limit (sent + length m.text) (suc m.num) ms) (left_over limit (sent + length m.text) ms) })
          (regroup before (send_msg next m) (taken limit (sent + length m.text) (suc m.num) ms) (closing_after a (next_after limit (sent + length m.text) (suc m.num) ms) (left_over limit (sent + length m.text) ms)))

-- the messages from a number on, where numbers rise
pub numbered_all : (n low : ℕ) (ms : List Msg) → n ≤ low → Ascends low ms → numbered_from n ms ≡ ms
numbered_all n low [] h r = refl
numbered_all n low (m ∷ ms) h r = rw (le-leb n m.num (omega (arith, r.0))) (ap (λ (y : List Msg). m ∷ y) (numbered_all n (suc m.num) ms (omega (arith, r.0)) r.1))

pub from_same : (n low : ℕ) (ms : List Msg) → Ascends low ms → messages_from n ms ≡ numbered_from n ms
from_same n low [] r = refl
from_same n low (m ∷ ms) r = go (leb n m.num) refl (from_same n (suc m.num) ms r.1)
  where
    go : (t : Bool) → leb n m.num ≡ t → messages_from n ms ≡ numbered_from n ms → cond t (m ∷ ms) (messages_from n ms) ≡ cond t (m ∷ numbered_from n ms) (numbered_from n ms)
    go true e ih = ap (λ (y : List Msg). m ∷ y) (sym (numbered_all n (suc m.num) ms (omega (arith, leb-true n m.num e)) r.1))
    go false e ih = ih
