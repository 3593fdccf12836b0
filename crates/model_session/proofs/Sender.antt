-- Sending one frame a call gives just the frames that send the session whole, and then "done".
-- Assumes nothing.
use mathlib.Core.Path.{◌≡◌, refl, sym, ap, subst, ◌∙◌}
use Prim.Native.Nat.{ℕ, zero, suc, ◌+◌, ◌-◌, ◌≤◌, max}
use native.Mathlib.Omega.{arith}
use mathlib.Core.List.{List, [], ◌∷◌, ◌++◌, head-eq_of_cons-eq, tail-eq_of_cons-eq, nil≢cons}
use mathlib.Core.Option.{Option, none, some}
use mathlib.Core.Bool.{Bool, true, false, cond}
use lib.ListN.{length}
use lib.Dec.{ltb, leb, nltb→le}
use Rattle.model_frame.specs.Frame.{Change, reset, batch}
use Rattle.model_session.specs.Session.{Session, Msg, new_session, Rising, Holdable, top}
use Rattle.model_session.specs.Whole.{stamp_part, send_msg, batch_if, batches_from, whole_batches, frames_of, whole_frames}
use Rattle.model_session.specs.Sender.{cannot_send, Sender, new_sender, messages_from, sent_part, cut_batch, opening, cut_from, send_next, Sends, all_sent, is_next}
use Rattle.model_session.proofs.Basics.{false→not_t, cond-true, cond-false, leb_true, leb_false, ltb_false, none≢some, some_inj}

-- ---- the messages from a number on

from_all : (n low N : ℕ) (ms : List Msg) → n ≤ low → Rising low N ms → messages_from n ms ≡ ms
from_all n low N [] h r = refl
from_all n low N (m ∷ ms) h r = cond-true _ _ (leb_true {m = n} {n = m.num} (omega (arith, r.0)))

from_low : (n low N : ℕ) (l : List Msg) (m : Msg) (ms : List Msg) → Rising low N l → messages_from n l ≡ m ∷ ms → low ≤ m.num
from_low n low N [] m ms r p = absurd (nil≢cons p)
from_low n low N (x ∷ l) m ms r p = go (leb n x.num) p (from_low n (suc x.num) N l m ms r.3)
  where
    go : (b : Bool) → cond b (x ∷ l) (messages_from n l) ≡ m ∷ ms → (messages_from n l ≡ m ∷ ms → suc x.num ≤ m.num) → low ≤ m.num
    go true q ih = subst (λ (y : Msg). low ≤ y.num) (head-eq_of_cons-eq q) r.0
    go false q ih = omega (arith, ih q, r.0)

-- after the first of them come the rest
from_tail : (n low N : ℕ) (l : List Msg) (m : Msg) (ms : List Msg) → Rising low N l → messages_from n l ≡ m ∷ ms → messages_from (suc m.num) l ≡ ms
from_tail n low N [] m ms r p = absurd (nil≢cons p)
from_tail n low N (x ∷ l) m ms r p = go (leb n x.num) p (from_tail n (suc x.num) N l m ms r.3)
  where
    under : x.num ≤ m.num → messages_from (suc m.num) (x ∷ l) ≡ messages_from (suc m.num) l
    under h = cond-false _ _ (leb_false {m = suc m.num} {n = x.num} (omega arith))

    go : (b : Bool) → cond b (x ∷ l) (messages_from n l) ≡ m ∷ ms → (messages_from n l ≡ m ∷ ms → messages_from (suc m.num) l ≡ ms) → messages_from (suc m.num) (x ∷ l) ≡ ms
    go true q ih =
        let xn : x.num ≡ m.num = ap (λ (y : Msg). y.num) (head-eq_of_cons-eq q) in
        under (omega arith) ∙ from_all (suc m.num) (suc x.num) N l (omega arith) r.3 ∙ tail-eq_of_cons-eq q
    go false q ih = under (omega (arith, from_low n (suc x.num) N l m ms r.3 q)) ∙ ih q

-- ---- the batches

module _ (limit : ℕ) (a : Session) where
  -- what comes after a batch
  abbrev after : Option ℕ → List (List Change)
  after none = []
  after (some n) = batches_from limit a [] 0 n (messages_from n a.messages)

  -- a batch cut, then the batches from there on
  cut_is : (ms : List Msg) (now : List Change) (bytes next : ℕ) → Rising 1 a.next_out a.messages → messages_from next a.messages ≡ ms
      → batches_from limit a now bytes next ms ≡ (cut_batch limit a now bytes next ms).changes ∷ after (cut_batch limit a now bytes next ms).goes_on
  cut_is [] now bytes next r p = refl
  cut_is (m ∷ ms) now bytes next r p = go (ltb limit bytes) (cut_is ms (now ++ send_msg next m) (bytes + length m.text) (suc m.num) r (from_tail next 1 a.next_out a.messages m ms r p))
    where
      fresh : batches_from limit a [] 0 next (m ∷ ms) ≡ batches_from limit a ([] ++ send_msg next m) (0 + length m.text) (suc m.num) ms
      fresh =
          ap (λ (b : Bool). batch_if b [] (batches_from limit a (cond b [] [] ++ send_msg next m) (cond b 0 0 + length m.text) (suc m.num) ms)) (ltb_false {m = limit} {n = 0} (omega arith))

      go : (b : Bool)
          → batches_from limit a (now ++ send_msg next m) (bytes + length m.text) (suc m.num) ms
          ≡ (cut_batch limit a (now ++ send_msg next m) (bytes + length m.text) (suc m.num) ms).changes ∷ after (cut_batch limit a (now ++ send_msg next m) (bytes + length m.text) (suc m.num) ms).goes_on
          → batch_if b now (batches_from limit a (cond b [] now ++ send_msg next m) (cond b 0 bytes + length m.text) (suc m.num) ms)
          ≡ (cond b (record { changes = now; goes_on = some next }) (cut_batch limit a (now ++ send_msg next m) (bytes + length m.text) (suc m.num) ms)).changes
          ∷ after (cond b (record { changes = now; goes_on = some next }) (cut_batch limit a (now ++ send_msg next m) (bytes + length m.text) (suc m.num) ms)).goes_on
      go true ih = ap {B = List (List Change)} (λ l. now ∷ l) (sym fresh ∙ ap (batches_from limit a [] 0 next) (sym p))
      go false ih = ih

  -- a batch goes on from 1 at least
  cut_on : (ms : List Msg) (now : List Change) (bytes next n : ℕ) → 1 ≤ next → (cut_batch limit a now bytes next ms).goes_on ≡ some n → 1 ≤ n
  cut_on [] now bytes next n h p = absurd (none≢some p)
  cut_on (m ∷ ms) now bytes next n h p = go (ltb limit bytes) p (cut_on ms (now ++ send_msg next m) (bytes + length m.text) (suc m.num) n (omega arith))
    where
      go : (b : Bool) → (cond b (record { changes = now; goes_on = some next }) (cut_batch limit a (now ++ send_msg next m) (bytes + length m.text) (suc m.num) ms)).goes_on ≡ some n
          → ((cut_batch limit a (now ++ send_msg next m) (bytes + length m.text) (suc m.num) ms).goes_on ≡ some n → 1 ≤ n) → 1 ≤ n
      go true q ih = subst (λ (x : ℕ). 1 ≤ x) (some_inj q) h
      go false q ih = ih q

  -- ---- the calls

  abbrev sender : ℕ → ℕ → ℕ → Option ℕ → Sender
  sender h e last o = record { handle = h; epoch = e; last = last; from = o }

  -- the batches from number n on
  abbrev batches_at : ℕ → List (List Change)
  batches_at n = batches_from limit a (opening limit a n) 0 (max n 1) (messages_from (max n 1) a.messages)

  at_on : (n : ℕ) → 1 ≤ n → after (some n) ≡ batches_at n
  at_on zero h = absurd (omega arith)
  at_on (suc n) h = ap (λ (x : ℕ). batches_from limit a [] 0 x (messages_from x a.messages)) (let e : suc n ≡ max (suc n) 1 = omega arith in e)

  sends_from : (bs : List (List Change)) (h e last n : ℕ) → Rising 1 a.next_out a.messages → bs ≡ batches_at n → Sends limit a (sender h e last (some n)) (frames_of h e last bs)
  unfolding send_next
  sends_from [] h e last n r p = absurd (nil≢cons (p ∙ cut_is (messages_from (max n 1) a.messages) (opening limit a n) 0 (max n 1) r refl))
  sends_from (b ∷ bs) h e last n r p = go (cut_from limit a n).goes_on refl bs (tail-eq_of_cons-eq is) (λ m q. sends_from bs h e (suc last) m r q)
    where
      is : b ∷ bs ≡ (cut_from limit a n).changes ∷ after (cut_from limit a n).goes_on
      is = p ∙ cut_is (messages_from (max n 1) a.messages) (opening limit a n) 0 (max n 1) r refl

      next : (o : Option ℕ) → (cut_from limit a n).goes_on ≡ o → send_next limit a (sender h e last (some n)) ≡ some (batch h e (suc last) (sent_part o) b [], sender h e (suc last) o)
      next o q =
          ap (λ (x : List Change). some (batch h e (suc last) (sent_part (cut_from limit a n).goes_on) x [], sender h e (suc last) (cut_from limit a n).goes_on)) (sym (head-eq_of_cons-eq is))
          ∙ ap (λ (x : Option ℕ). some (batch h e (suc last) (sent_part x) b [], sender h e (suc last) x)) q

      ended : send_next limit a (sender h e (suc last) none) ≡ none
      ended = refl

      go : (o : Option ℕ) → (cut_from limit a n).goes_on ≡ o → (bs : List (List Change)) → bs ≡ after (cut_from limit a n).goes_on
          → ((m : ℕ) → bs ≡ batches_at m → Sends limit a (sender h e (suc last) (some m)) (frames_of h e (suc last) bs)) → Sends limit a (sender h e last (some n)) (frames_of h e last (b ∷ bs))
      go none q [] w ih = is_next (next none q) (all_sent ended)
      go none q (c ∷ cs) w ih = absurd (nil≢cons (sym (w ∙ ap after q)))
      go (some m) q [] w ih = absurd (nil≢cons (w ∙ ap after q ∙ cut_is (messages_from m a.messages) [] 0 m r refl))
      go (some m) q (c ∷ cs) w ih =
          is_next (next (some m) q) (ih m (w ∙ ap after q ∙ at_on m (cut_on (messages_from (max n 1) a.messages) (opening limit a n) 0 (max n 1) m (omega arith) q)))

-- from a new sender the calls give the frames that send the session whole
pub sends_whole : (limit C M h e last : ℕ) (a : Session) → Holdable C M a → Sends limit a (new_sender h e last) (whole_frames limit h e last a)
unfolding whole_frames whole_batches
sends_whole limit C M h e last a ok =
    sends_from limit a (whole_batches limit a) h e last 0 ok.msgs_rise
    (ap (batches_from limit a (reset ∷ stamp_part a.stamp) 0 1) (sym (from_all 1 1 a.next_out a.messages (omega arith) ok.msgs_rise)))

-- past 24 the commit numbers stay within their type
pub can_send : (limit h e last : ℕ) (a : Session) → cannot_send limit a (new_sender h e last) ≡ false → last + length (whole_batches limit a) ≤ top
unfolding cannot_send
can_send limit h e last a p = nltb→le top (last + length (whole_batches limit a)) (false→not_t (ltb top (last + length (whole_batches limit a))) p)

-- a new session is one batch: 24 with the last commit number 2^64 - 1, not with 2^64 - 2, nor after the first frame
numbers_end :
    cannot_send 1048576 new_session (new_sender 9 5 top)
    ∷ cannot_send 1048576 new_session (new_sender 9 5 (top - 1))
    ∷ cannot_send 1048576 new_session (record { handle = 9; epoch = 5; last = top; from = some 1 })
    ∷ []
    ≡ true ∷ false ∷ false ∷ []
unfolding cannot_send whole_batches
numbers_end = refl
