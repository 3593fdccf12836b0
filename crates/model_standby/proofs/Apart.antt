-- No operation makes two places with the same key: in a run from a store without two such places every own key is the key alone,
-- and the place of a key is found by it.
-- Assumes nothing.
use mathlib.Core.Path.{◌≡◌, refl, sym, ap, ◌∙◌}
use Prim.Native.Nat.{ℕ, zero, suc, ◌+◌, ◌≤◌, ◌<◌}
use native.Mathlib.Omega.{arith}
use mathlib.Core.List.{List, [], ◌∷◌, ◌++◌, map}
use mathlib.Core.Option
use mathlib.Core.Option.{some}
use mathlib.Core.Bool.{Bool, true, false, cond, not, ◌||◌}
use lib.ListN.{length, length-append, get_elem?}
use lib.Dec.{ltb, eqb, ltb→lt, nltb→le}
use Rattle.model_frame.specs.Frame.{Key, Change, Part, Frame}
use Rattle.model_standby.specs.Answer.{Given, damaged, intact, given, is_reply}
use Rattle.model_standby.specs.Store.{Stored, Place, same_key, place_of, is_stored, on_place, on_places, mark_durable, new_place, opened, changed, mark_all, taken_over}
use Rattle.model_standby.specs.State.{Settings, Standby, Result, Call, on_frame_held, on_frame, flush, disconnected_from, promote, promote_unchecked}
use Rattle.model_standby.specs.Standby.{run_pending, due, on_given, step, run}
use Rattle.model_standby.specs.PlainCopy.{OwnKey, key_count, own_key}
use Rattle.model_session.proofs.Basics.{eqb_sound, and_true, true→T, false→not_t, cond_cases, none≢some, some_inj}
use Rattle.model_standby.proofs.Outcomes.{Batches, refuses, clears, raises, holds, applies, diverges, Does, turns, tells, nacks, greets, binds, checks, batches, does}
use Rattle.model_standby.proofs.Places.{key_at, at_append, place_low, key_there, earlier_none, own_parts, own_made, earlier_append, bind_is, key_self}

-- no place has an earlier one with its key
abbrev pub Apart : List Place → Type 0
Apart ps = (n : ℕ) (k : OwnKey) → own_key ps n ≡ some k → k.earlier ≡ 0

-- ---- the keys alone count

abbrev keys_of : List Place → List Key
keys_of ps = map (λ (x : Place). x.key) ps

abbrev earlier_in : Key → ℕ → List Key → ℕ
earlier_in k zero js = 0
earlier_in k (suc n) [] = 0
earlier_in k (suc n) (j ∷ js) = cond (same_key k j) 1 0 + earlier_in k n js

key_is : (ps : List Place) (n : ℕ) → key_at ps n ≡ get_elem? (keys_of ps) n
key_is [] n = refl
key_is (x ∷ ps) zero = refl
key_is (x ∷ ps) (suc n) = key_is ps n

earlier_is : (k : Key) (n : ℕ) (ps : List Place) → key_count k n ps ≡ earlier_in k n (keys_of ps)
earlier_is k zero ps = refl
earlier_is k (suc n) [] = refl
earlier_is k (suc n) (x ∷ ps) = ap (λ (c : ℕ). cond (same_key k x.key) 1 0 + c) (earlier_is k n ps)

apart_same : (ps qs : List Place) → keys_of qs ≡ keys_of ps → Apart ps → Apart qs
apart_same ps qs e a n k p =
    let o = own_parts qs n k p in
    a n k (own_made ps n k (key_is ps n ∙ ap (λ (l : List Key). get_elem? l n) (sym e) ∙ sym (key_is qs n) ∙ o.0) (o.1 ∙ earlier_is k.key n qs ∙ ap (earlier_in k.key n) e ∙ sym (earlier_is k.key n ps)))

keys_on : (m : ℕ) (f : Stored → Stored) (ps : List Place) → keys_of (on_place m f ps) ≡ keys_of ps
keys_on m f [] = refl
keys_on zero f (x ∷ ps) = refl
keys_on (suc m) f (x ∷ ps) = ap {B = List Key} (λ l. x.key ∷ l) (keys_on m f ps)

keys_places : (f : Stored → Stored) (ps : List Place) → keys_of (on_places f ps) ≡ keys_of ps
keys_places f [] = refl
keys_places f (x ∷ ps) = ap {B = List Key} (λ l. x.key ∷ l) (keys_places f ps)

keys_mark : (cs : List (ℕ × ℕ)) (ps : List Place) → keys_of (mark_all cs ps) ≡ keys_of ps
keys_mark [] ps = refl
keys_mark (c ∷ cs) ps = keys_mark cs (on_place c.1 mark_durable ps) ∙ keys_on c.1 mark_durable ps

-- ---- a new place

at_end : {A : Type 0} (l : List A) (x : A) → get_elem? (l ++ (x ∷ [])) (length l) ≡ some x
at_end [] x = refl
at_end (y ∷ l) x = at_end l x

apart_new : (j : Key) (ps : List Place) → length ps ≤ place_of j ps → Apart ps → Apart (ps ++ (new_place j ∷ []))
apart_new j ps h a n k p = go (ltb n (length ps)) refl
  where
    o : (key_at (ps ++ (new_place j ∷ [])) n ≡ some k.key) × (k.earlier ≡ key_count k.key n (ps ++ (new_place j ∷ [])))
    o = own_parts (ps ++ (new_place j ∷ [])) n k p

    go : (b : Bool) → ltb n (length ps) ≡ b → k.earlier ≡ 0
    go true e =
        let there : n < length ps = ltb→lt n (length ps) (true→T (ltb n (length ps)) e) in
        a n k (own_made ps n k (sym (ap (Option.map (λ (x : Place). x.key)) (at_append ps (new_place j ∷ []) n there)) ∙ o.0) (o.1 ∙ earlier_append k.key n ps (new_place j ∷ []) (omega arith)))
    go false e =
        let low : length ps ≤ n = nltb→le n (length ps) (false→not_t (ltb n (length ps)) e) in
        let last : n ≡ length ps = omega (arith, key_there (ps ++ (new_place j ∷ [])) n k.key o.0, length-append ps (new_place j ∷ [])) in
        let here : place_of j ps ≡ length ps = omega (arith, place_low j ps) in
        let kj : j ≡ k.key = some_inj (sym (ap (Option.map (λ (x : Place). x.key)) (at_end ps (new_place j))) ∙ ap (key_at (ps ++ (new_place j ∷ []))) (sym last) ∙ o.0) in
        o.1
        ∙ ap (λ (x : Key). key_count x n (ps ++ (new_place j ∷ []))) (sym kj)
        ∙ earlier_append j n ps (new_place j ∷ []) (omega arith)
        ∙ ap (λ (x : ℕ). key_count j x ps) (last ∙ sym here)
        ∙ earlier_none j ps

apart_open : (j : Key) (ps : List Place) → Apart ps → Apart (opened j ps)
apart_open j ps a = cond_cases Apart (is_stored j ps) (λ _. a) (λ t. apart_new j ps (nltb→le (place_of j ps) (length ps) t) a)

-- ---- every call

abbrev Keeps : Result → Type 0
Keeps r = Apart r.state.places

apart_pending : (w : Bool) (s : Standby) → Apart s.places → Apart (run_pending w s).places
apart_pending true s a = apart_same s.places (mark_all s.pending s.places) (keys_mark s.pending s.places) a
apart_pending false s a = a

batch_keeps : {L : Settings} {s : Standby} {h n : ℕ} {p : Part} {cs : List Change} {r : Result} → Batches L s h n p cs r → Apart s.places → Keeps r
batch_keeps (refuses t) a = a
batch_keeps (clears f) a = a
batch_keeps (raises f t) a = a
batch_keeps (holds f q t) a = a
batch_keeps {L} {s} (applies {b₁ = b} {all = cs} f g t) a =
    apart_same s.places (on_place b.place (changed L.C L.M cs) s.places) (keys_on b.place (changed L.C L.M cs) s.places) a
batch_keeps (diverges f g) a = a

does_keeps : {L : Settings} {s : Standby} {f : Frame} {r : Result} → Does L s f r → Apart s.places → Keeps r
does_keeps (turns t) a = a
does_keeps tells a = a
does_keeps (nacks q) a = a
does_keeps (greets le) a = a
does_keeps {s} (binds {k} le st p q) a = apart_open k s.places a
does_keeps (checks le) a = a
does_keeps (batches le d) a = batch_keeps d a

module _ (L : Settings) where
  given_keeps : (s : Standby) (g : Given) → Apart s.places → Keeps (on_given L s g)
  unfolding on_given
  given_keeps s (damaged n) a = a
  given_keeps s (intact f) a = cond_cases Keeps s.counters.promoted (λ _. a) (λ _. does_keeps (does L (run_pending (due s.pending f) s) f) (apart_pending (due s.pending f) s a))

  apart_promoted : (ps : List Place) → Apart ps → Apart (on_places (taken_over L.lag) ps)
  apart_promoted ps a = apart_same ps (on_places (taken_over L.lag) ps) (keys_places (taken_over L.lag) ps) a

  apart_step : (s : Standby) (c : Call) → Apart s.places → Keeps (step L s c)
  unfolding step
  apart_step s (on_frame_held w) a = given_keeps s (given s.counters.version w) a
  apart_step s (on_frame w) a = apart_pending (is_reply (on_given L s (given s.counters.version w)).answer) (on_given L s (given s.counters.version w)).state (given_keeps s (given s.counters.version w) a)
  apart_step s (flush n) a = cond_cases Keeps (not (eqb n s.counters.connections) || s.counters.promoted) (λ _. a) (λ _. apart_pending true s a)
  apart_step s (disconnected_from n) a = cond_cases (λ (x : Standby). Apart x.places) (eqb n s.counters.connections) (λ _. a) (λ _. a)
  apart_step s promote a = cond_cases Keeps s.counters.checked (λ _. apart_promoted s.places a) (λ _. a)
  apart_step s promote_unchecked a = apart_promoted s.places a

  pub apart_run : (s : Standby) (cs : List Call) → Apart s.places → Apart (run L s cs).places
  apart_run s [] a = a
  apart_run s (c ∷ cs) a = apart_run (step L s c).state cs (apart_step s c a)

-- an empty store has no two places with one key
pub apart_new_store : Apart []
apart_new_store n k p = absurd (none≢some p)

-- where places are apart, the place of a key is found by the key
pub apart_found : (ps : List Place) (n : ℕ) (k : OwnKey) → Apart ps → own_key ps n ≡ some k → place_of k.key ps ≡ n
apart_found ps n k a p =
    eqb_sound (place_of k.key ps) n (sym (bind_is ps n k k.key p) ∙ and_true (key_self k.key) (ap (λ (m : ℕ). eqb m 0) (a n k p)))
