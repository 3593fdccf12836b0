-- A whole sending in words: a call of a sending, and one that begins it. Assumes nothing.
use mathlib.Core.Path.{◌≡◌, refl, sym, ap, subst, ◌∙◌}
use mathlib.Core.Bool.{Bool, true, false, cond, not}
use mathlib.Core.List.{List}
use mathlib.Core.Option.{Option, none, some}
use Prim.Native.Nat.{ℕ, ◌≤◌}
use native.Mathlib.Omega.{arith}
use lib.Dec.{ltb, eqb}
use lib.ListN.{length, get_or, set, length-set}
use lib.Seq.{get_or-set_same, get_or-set_other}
use Rattle.std.specs.Prelude.{Some, Ok}
use Rattle.base_flags.specs.Flag.{is_set}
use Rattle.base_refusals.specs.declared.Refusal.{Refusal}
use Rattle.model_text.specs.Version.{is_version}
use Rattle.model_frame.specs.Writing.{encode}
use Rattle.model_session.specs.Session.{Session, suits}
use Rattle.model_session.specs.Sender.{Sender, new_sender, cannot_send, cut_from, sent, sent_from, send_next}
use Rattle.active_batch.specs.Batch.{resume_from, number_or_none}
use Rattle.store_areas.specs.declared.Shape.{Shape}
use Rattle.active.specs.declared.Sending.{Sending}
use Rattle.active.specs.declared.Sent.{Sent}
use Rattle.active.specs.Whole.{SendAnswer, sender_of, stored_at, SendStart, ready, start_of, start_from, SendStep, gives, finished, step_of, turned_down, send_answer, unless_refused, step_from, SendsWhole}
use Rattle.active.specs.Whole as whole
use Rattle.c_code.specs.Codes.{done_code}
use Rattle.c_exports.specs.Sendings.{from_word, done_byte, sender_in, start_in, send_code, NextWords, Resumes, SendIs}

-- ---- a call keeps the handle and the epoch

kept : (limit version : ℕ) (a : Option Session) (i : ℕ) (s : Sender) (room : ℕ) {len j v : ℕ} {t : Sender} → gives len j v t ≡ step_from limit version a i s room → (t.handle ≡ s.handle) × (t.epoch ≡ s.epoch)
unfolding step_from send_next
kept limit version none i s room e = absurd (omega (arith, clash e))
  where
    clash : {len j v : ℕ} {t : Sender} → gives len j v t ≡ whole.SendStep.refused 25 → ◌≡◌ {A = ℕ} 0 1
    clash e = cc
kept limit version (some a) i s room {len} {j} {v} {t} e = go (turned_down version a s) s.from e
  where
    clash : {n : ℕ} → gives len j v t ≡ whole.SendStep.refused n → ◌≡◌ {A = ℕ} 0 1
    clash e = cc

    ended : gives len j v t ≡ finished → ◌≡◌ {A = ℕ} 0 1
    ended e = cc

    with_room : (b : Bool) (n : ℕ) → gives len j v t ≡ cond b (whole.SendStep.refused 9) (gives (length (encode (sent limit a s (cut_from limit a n)).0)) i version (sent limit a s (cut_from limit a n)).1) → (t.handle ≡ s.handle) × (t.epoch ≡ s.epoch)
    with_room true n e = absurd (omega (arith, clash e))
    with_room false n e =
        let q : t ≡ (sent limit a s (cut_from limit a n)).1 = cc in
        (ap (λ (x : Sender). x.handle) q, ap (λ (x : Sender). x.epoch) q)

    go : (why : Option ℕ) (o : Option ℕ) → gives len j v t ≡ unless_refused why (send_answer room i version (sent_from limit a s o)) → (t.handle ≡ s.handle) × (t.epoch ≡ s.epoch)
    go (some k) o e = absurd (omega (arith, clash e))
    go none none e = absurd (omega (arith, ended e))
    go none (some n) e = with_room (ltb room (length (encode (sent limit a s (cut_from limit a n)).0))) n e

-- ---- the four words

word_pair : (o : Option ℕ) → resume_from (from_word o) (is_set (done_byte o)) ≡ o
word_pair none = refl
word_pair (some n) = refl

handed : (h e : ℕ) (t : Sending) (q : List ℕ) {q' : List ℕ} → 4 ≤ length q → t.handle ≡ h → t.epoch.0 ≡ e
    → q' ≡ set (set (set (set q 0 t.last.0) 1 1) 2 (from_word (number_or_none t.from))) 3 (done_byte (number_or_none t.from)) → NextWords h e (sender_of t) q q'
handed h e t q {q'} long eh ee is =
    let from : ℕ = from_word (number_or_none t.from) in
    let done : ℕ = done_byte (number_or_none t.from) in
    let a : List ℕ = set q 0 t.last.0 in
    let b : List ℕ = set a 1 1 in
    let c : List ℕ = set b 2 from in
    let la : length a ≡ length q = length-set q 0 t.last.0 in
    let lb : length b ≡ length q = length-set a 1 1 ∙ la in
    let lc : length c ≡ length q = length-set b 2 from ∙ lb in
    let w0 : get_or q' 0 0 ≡ t.last.0 =
    ap (λ (l : List ℕ). get_or l 0 0) is ∙ get_or-set_other c 3 0 done 0 (λ x. omega arith) ∙ get_or-set_other b 2 0 from 0 (λ x. omega arith)
    ∙ get_or-set_other a 1 0 1 0 (λ x. omega arith) ∙ get_or-set_same q 0 t.last.0 0 (omega arith) in
    let w2 : get_or q' 2 0 ≡ from = ap (λ (l : List ℕ). get_or l 2 0) is ∙ get_or-set_other c 3 2 done 0 (λ x. omega arith) ∙ get_or-set_same b 2 from 0 (omega arith) in
    let w3 : get_or q' 3 0 ≡ done = ap (λ (l : List ℕ). get_or l 3 0) is ∙ get_or-set_same c 3 done 0 (omega arith) in
    let there : resume_from (get_or q' 2 0) (is_set (get_or q' 3 0)) ≡ number_or_none t.from = (λ j. resume_from (w2 j) (is_set (w3 j))) ∙ word_pair (number_or_none t.from) in
    let h' : h ≡ t.handle = sym eh in
    let e' : e ≡ t.epoch.0 = sym ee in
    record {
      next = λ j. record { handle = h' j; epoch = e' j; last = w0 j; from = there j };
      words = is;
    }

-- ---- a call of a sending

module _ (limit : ℕ) (shape : Shape) (w b : List ℕ) (s : Sending) (q : List ℕ) {out out' : List ℕ} {r : ℕ} where
  pub sends_frame : (t : Sent) (q' : List ℕ) → SendsWhole limit shape w b s out out' (Ok (Some t)) → 4 ≤ length q
      → q' ≡ set (set (set (set q 0 t.next.last.0) 1 1) 2 (from_word (number_or_none t.next.from))) 3 (done_byte (number_or_none t.next.from)) → r ≡ done_code t.len
      → SendIs limit (stored_at shape w b s.place) s.handle s.epoch.0 (ready s.place s.version (sender_of s)) q q' out out' r
  sends_frame t q' h long is a =
      let k = kept limit s.version (stored_at shape w b s.place) s.place (sender_of s) (length out) h.answer in
      record {
        answer = a ∙ ap send_code h.answer;
        words = subst (λ (t : SendStep). Resumes s.handle s.epoch.0 t q q') h.answer (handed s.handle s.epoch.0 t.next q long k.0 k.1 is);
        area = h.area;
      }

-- ---- the call that begins it

not_refused : (b : Bool) (n : ℕ) (x : SendStart) {j v : ℕ} {t : Sender} → ready j v t ≡ cond b (whole.SendStart.refused n) x → ready j v t ≡ x
not_refused true n x {j} {v} {t} p = absurd (omega (arith, clash p))
  where
    clash : ready j v t ≡ whole.SendStart.refused n → ◌≡◌ {A = ℕ} 0 1
    clash p = cc
not_refused false n x p = p

-- what was begun is for the place, the handle and the epoch that were given
new_start : (limit version : ℕ) (a : Option Session) (i h e last : ℕ) {j v : ℕ} {t : Sender} → ready j v t ≡ start_from limit version a i h e last → (j ≡ i) × (t ≡ new_sender h e last)
unfolding start_from
new_start limit version none i h e last {j} {v} {t} p = absurd (omega (arith, clash p))
  where
    clash : ready j v t ≡ whole.SendStart.refused 25 → ◌≡◌ {A = ℕ} 0 1
    clash p = cc
new_start limit version (some a) i h e last p =
    let known = not_refused (not (is_version version)) 11 _ p in
    let suited = not_refused (not (suits version a.stamp)) 32 _ known in
    let numbered = not_refused (cannot_send limit a (new_sender h e last)) 24 _ suited in
    (cc, cc)

-- and so is what the words stand for
state_for : (limit version : ℕ) (a : Option Session) (i h e : ℕ) (q : List ℕ) {j v : ℕ} {t : Sender} → ready j v t ≡ start_in limit version a i h e q → (j ≡ i) × (t.handle ≡ h) × (t.epoch ≡ e)
state_for limit version a i h e q {j} {v} {t} p = go (eqb (get_or q 1 0) 0) p
  where
    go : (b : Bool) → ready j v t ≡ cond b (start_from limit version a i h e (get_or q 0 0)) (ready i version (sender_in h e q)) → (j ≡ i) × (t.handle ≡ h) × (t.epoch ≡ e)
    go true p = let n = new_start limit version a i h e (get_or q 0 0) p in (n.0, ap (λ (x : Sender). x.handle) n.1, ap (λ (x : Sender). x.epoch) n.1)
    go false p = let n : t ≡ sender_in h e q = cc in (cc, ap (λ (x : Sender). x.handle) n, ap (λ (x : Sender). x.epoch) n)

module _ (limit version : ℕ) (shape : Shape) (w b : List ℕ) (i h e : ℕ) (q : List ℕ) {out out' q' : List ℕ} {r : ℕ} where
  pub is_called : (s : Sending) → start_of (Ok s) ≡ start_in limit version (stored_at shape w b i) i h e q
      → SendIs limit (stored_at shape w b s.place) s.handle s.epoch.0 (ready s.place s.version (sender_of s)) q q' out out' r
      → SendIs limit (stored_at shape w b i) h e (start_in limit version (stored_at shape w b i) i h e q) q q' out out' r
  is_called s start c =
      let n = state_for limit version (stored_at shape w b i) i h e q start in
      subst (λ (t : SendStart). SendIs limit (stored_at shape w b i) h e t q q' out out' r) start
      (subst (λ (k : ℕ). SendIs limit (stored_at shape w b i) h k (ready s.place s.version (sender_of s)) q q' out out' r) n.2
      (subst (λ (k : ℕ). SendIs limit (stored_at shape w b i) k s.epoch.0 (ready s.place s.version (sender_of s)) q q' out out' r) n.1
      (subst (λ (k : ℕ). SendIs limit (stored_at shape w b k) s.handle s.epoch.0 (ready s.place s.version (sender_of s)) q q' out out' r) n.0 c)))
