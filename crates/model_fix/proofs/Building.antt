-- The messages of a good file: their numbers rise from 1 to at most 2^64 - 2, and the session that they build is one that the store can hold.
-- Assumes nothing.
use mathlib.Core.Path.{◌≡◌, refl, sym, ap, ◌∙◌}
use mathlib.Core.Bool.{Bool, true, false, cond, ◌&&◌, false≢true}
use mathlib.Core.List.{List, [], ◌∷◌, ◌++◌}
use Prim.Native.Nat.{ℕ, suc, ◌+◌, ◌-◌, ◌≤◌, ◌<◌}
use native.Mathlib.Omega.{arith}
use lib.ListN.{length, get_or}
use lib.Dec.{T, leb, ltb, eqb}
use borrow.Author.Tests.{ltb-true, ltb-false, lt-ltb, le-ltb, le-leb, eq-eqb}
use Rattle.model_session.proofs.Storable.{Storable}
use Rattle.model_text.specs.Lines.{joined}
use Rattle.model_frame.specs.Frame.{Change, record_msg, record_bare}
use Rattle.model_frame.specs.Parse.{Each}
use Rattle.model_session.specs.Session.{Session, Msg, new_session, apply, apply_all, fits, Holdable, is_bytes, top}
use Rattle.model_session.specs.Whole.{send_msg, skip_to, whole_batches}
use Rattle.model_session.specs.Whole as whole
use Rattle.model_session.proofs.Basics.{each_append, T→true, true→T, and_l, and_r}
use Rattle.model_session.proofs.Sending.{whole_is_exact, apply_all_append}
use Rattle.model_session.proofs.Keeping.{new_holdable, apply_all_keeps}
use Rattle.model_fix.specs.Field.{pieces_of, number_in_digits, value_of, has_tag}
use Rattle.model_fix.specs.Message.{tag10, tag34, tagged, is_sequence, one_sequence, fields_good, length_good, sum_good, Verdict, bad, good, judge, messages_of}
use Rattle.model_fix.specs.Import.{Judged, fault, taken, onto_taken, judge_next, judge_all, judge_file, records_of, imported}
use Rattle.model_fix.proofs.Cuts.{flat, cut_flat, pieces_joined, joined_append}
use Rattle.model_fix.proofs.Fields.{good_fields, Sequence, sequence}

-- ---- a good message's number

the_one : (xs : List (List ℕ)) → one_sequence xs ≡ true → is_sequence (value_of (get_or xs 0 [])) ≡ true
the_one [] e = absurd (false≢true e)
the_one (p ∷ []) e = e
the_one (p ∷ q ∷ xs) e = absurd (false≢true e)

good_number : {p q : ℕ} → good p ≡ good q → p ≡ q
good_number e = cc

pub bad_good : {n q : ℕ} → bad n ≡ good q → ⊥
bad_good e = let z : ◌≡◌ {A = ℕ} 0 1 = cc in omega arith

pub record InRange (q : ℕ) : Type 0 where
  pub low : 1 ≤ q
  pub high : q < top

pub judge_range : (ps : List (List ℕ)) (q : ℕ) → judge ps ≡ good q → InRange q
unfolding judge
judge_range ps q e = go (fields_good ps) refl (length_good ps && sum_good ps) refl
  where
    go : (t : Bool) → fields_good ps ≡ t → (u : Bool) → (length_good ps && sum_good ps) ≡ u → InRange q
    go true f true l =
        let n : ℕ = number_in_digits (value_of (get_or (tagged tag34 ps) 0 [])) in
        let is : n ≡ q = good_number (rw (f, l) at e) in
        let s : Sequence (value_of (get_or (tagged tag34 ps) 0 [])) = sequence (value_of (get_or (tagged tag34 ps) 0 [])) (the_one (tagged tag34 ps) (good_fields ps f).sequence) in
        record { low = omega (arith, s.low); high = omega (arith, s.high) }
    go true f false l = absurd (bad_good (rw (f, l) at e))
    go false f u l = absurd (bad_good (rw f at e))

-- ---- the messages of a good file

-- numbers rise behind `last`, and are at most 2^64 - 2
abbrev pub Climbing : ℕ → List Msg → Type 0
Climbing last [] = Unit {0}
Climbing last (m ∷ ms) = (last < m.num) × (m.num < top) × Climbing m.num ms

pub record Splits (m : Msg) (j : Judged) (ms : List Msg) : Type 0 where
  pub rest : List Msg
  pub behind : j ≡ taken rest
  pub first : ms ≡ m ∷ rest

pub fault_taken : {n at : ℕ} {ms : List Msg} → fault n at ≡ taken ms → ⊥
fault_taken e = let z : ◌≡◌ {A = ℕ} 0 1 = cc in omega arith

taken_same : {ms ns : List Msg} → taken ms ≡ taken ns → ms ≡ ns
taken_same e = cc

pub splits : (m : Msg) (j : Judged) (ms : List Msg) → onto_taken m j ≡ taken ms → Splits m j ms
splits m (fault n at) ms e = absurd (fault_taken e)
splits m (taken l) ms e = record { rest = l; behind = refl; first = sym (taken_same e) }

pub climbs : (at last : ℕ) (ps : List (List (List ℕ))) (ms : List Msg) → judge_all at last ps ≡ taken ms → Climbing last ms
climbs at last [] ms e = rw (← (taken_same e)) tt
climbs at last (p ∷ ps) ms e = go (judge p) refl (λ q l h. climbs (at + length (joined p)) q ps l h)
  where
    go : (v : Verdict) → judge p ≡ v → ((q : ℕ) (l : List Msg) → judge_all (at + length (joined p)) q ps ≡ taken l → Climbing q l) → Climbing last ms
    go (bad n) f more = absurd (fault_taken (rw f at e))
    go (good q) f more = up (ltb last q) refl
      where
        up : (t : Bool) → ltb last q ≡ t → Climbing last ms
        up true h =
            let k : Splits (record { num = q; text = joined p }) (judge_all (at + length (joined p)) q ps) ms = splits (record { num = q; text = joined p }) (judge_all (at + length (joined p)) q ps) ms (rw (f, h) at e) in
            rw k.first (ltb-true last q h, (judge_range p q f).high, more q k.rest k.behind)
        up false h = absurd (fault_taken (rw (f, h) at e))

pub file_climbs : (file : List ℕ) (ms : List Msg) → judge_file file ≡ taken ms → Climbing 0 ms
unfolding judge_file
file_climbs file ms e = climbs 0 0 (messages_of (pieces_of file)) ms e

-- ---- the session that they build

records_fit : (last : ℕ) (ms : List Msg) → Climbing last ms → fits (suc last) (records_of (suc last) ms) ≡ true
records_fit last [] c = refl
records_fit last (m ∷ ms) c = go (ltb (suc last) m.num) refl (records_fit m.num ms c.2)
  where
    go : (t : Bool) → ltb (suc last) m.num ≡ t → fits (suc m.num) (records_of (suc m.num) ms) ≡ true → fits (suc last) (records_of (suc last) (m ∷ ms)) ≡ true
    go true e more =
        let lt : suc last < m.num = ltb-true (suc last) m.num e in
        let one : suc (m.num - 1) ≡ m.num = omega arith in
        let low : suc last ≤ m.num - 1 = omega arith in
        let small : m.num - 1 < top = omega (arith, c.1) in
        rw (e, le-leb (suc last) (m.num - 1) low, lt-ltb (m.num - 1) top small, one, eq-eqb m.num m.num refl, lt-ltb m.num top c.1, more) refl
    go false e more =
        let same : m.num ≡ suc last = omega (arith, ltb-false (suc last) m.num e, c.0) in
        rw (e, eq-eqb m.num (suc last) same, lt-ltb m.num top c.1, more) refl

-- all bytes of the messages are bytes
abbrev pub Octets : List Msg → Type 0
Octets [] = Unit {0}
Octets (m ∷ ms) = T (is_bytes m.text) × Octets ms

skip_storable : (t : Bool) (n : ℕ) → Each Storable (cond t (record_bare n ∷ []) [])
skip_storable true n = (tt, tt)
skip_storable false n = tt

records_storable : (next : ℕ) (ms : List Msg) → Octets ms → Each Storable (records_of next ms)
records_storable next [] o = tt
records_storable next (m ∷ ms) o =
    each_append Storable (send_msg next m) (records_of (suc m.num) ms)
    (each_append Storable (skip_to next m.num) (record_msg m.num m.text ∷ []) (skip_storable (ltb next m.num) (m.num - 1)) (o.0, tt))
    (records_storable (suc m.num) ms o.1)

-- an imported session is one that the store can hold: what holds of sending such a session whole holds of it
pub imported_holdable : (C M : ℕ) (file : List ℕ) (ms : List Msg) → judge_file file ≡ taken ms → Octets ms → Holdable C M (imported C M ms)
unfolding imported
imported_holdable C M file ms e o = apply_all_keeps C M (records_of 1 ms) new_session (new_holdable C M) (records_storable 1 ms o) (records_fit 0 ms (file_climbs file ms e))

-- ---- its six parts

abbrev pub next_after : ℕ → List Msg → ℕ
next_after next [] = next
next_after next (m ∷ ms) = next_after (suc m.num) ms

pub record AsNew (next : ℕ) (x : Session) : Type 0 where
  pub stamp : x.stamp ≡ new_session.stamp
  pub next_out : x.next_out ≡ next
  pub next_in : x.next_in ≡ new_session.next_in
  pub in_flight : x.in_flight ≡ new_session.in_flight
  pub marks : x.marks ≡ new_session.marks

after_skip : (C M : ℕ) (t : Bool) (n next : ℕ) (m : Msg) (x : Session) → AsNew next x → AsNew (suc m.num) (apply_all C M (cond t (record_bare n ∷ []) [] ++ (record_msg m.num m.text ∷ [])) x)
unfolding apply
after_skip C M true n next m x a = record { stamp = a.stamp; next_out = refl; next_in = a.next_in; in_flight = a.in_flight; marks = a.marks }
after_skip C M false n next m x a = record { stamp = a.stamp; next_out = refl; next_in = a.next_in; in_flight = a.in_flight; marks = a.marks }

as_new : (C M next : ℕ) (ms : List Msg) (x : Session) → AsNew next x → AsNew (next_after next ms) (apply_all C M (records_of next ms) x)
as_new C M next [] x a = a
as_new C M next (m ∷ ms) x a =
    rw (apply_all_append C M (send_msg next m) (records_of (suc m.num) ms) x)
    (as_new C M (suc m.num) ms (apply_all C M (send_msg next m) x) (after_skip C M (ltb next m.num) (m.num - 1) next m x a))

-- next outgoing follows the last message (1 for an empty file); stamp, next incoming, in flight and marks are as new
pub imported_parts : (C M : ℕ) (ms : List Msg) → AsNew (next_after 1 ms) (imported C M ms)
unfolding imported
imported_parts C M ms = as_new C M 1 ms new_session (record { stamp = refl; next_out = refl; next_in = refl; in_flight = refl; marks = refl })

-- ---- nothing of a good file is lost: its messages, joined, are the file

abbrev pub texts : List Msg → List ℕ
texts [] = []
texts (m ∷ ms) = m.text ++ texts ms

taken_texts : (at last : ℕ) (ps : List (List (List ℕ))) (ms : List Msg) → judge_all at last ps ≡ taken ms → texts ms ≡ joined (flat (has_tag tag10) ps)
taken_texts at last [] ms e = rw (← (taken_same e)) refl
taken_texts at last (p ∷ ps) ms e = go (judge p) refl (λ q l h. taken_texts (at + length (joined p)) q ps l h)
  where
    go : (v : Verdict) → judge p ≡ v → ((q : ℕ) (l : List Msg) → judge_all (at + length (joined p)) q ps ≡ taken l → texts l ≡ joined (flat (has_tag tag10) ps)) → texts ms ≡ joined (p ++ flat (has_tag tag10) ps)
    go (bad n) f more = absurd (fault_taken (rw f at e))
    go (good q) f more = up (ltb last q) refl
      where
        up : (t : Bool) → ltb last q ≡ t → texts ms ≡ joined (p ++ flat (has_tag tag10) ps)
        up true h =
            let k : Splits (record { num = q; text = joined p }) (judge_all (at + length (joined p)) q ps) ms = splits (record { num = q; text = joined p }) (judge_all (at + length (joined p)) q ps) ms (rw (f, h) at e) in
            ap texts k.first ∙ ap (λ (l : List ℕ). joined p ++ l) (more q k.rest k.behind) ∙ sym (joined_append p (flat (has_tag tag10) ps))
        up false h = absurd (fault_taken (rw (f, h) at e))

pub file_texts : (file : List ℕ) (ms : List Msg) → judge_file file ≡ taken ms → texts ms ≡ file
unfolding judge_file
file_texts file ms e = taken_texts 0 0 (messages_of (pieces_of file)) ms e ∙ ap joined (cut_flat (has_tag tag10) (pieces_of file)) ∙ pieces_joined file

bytes_left : (x y : List ℕ) → T (is_bytes (x ++ y)) → T (is_bytes x)
bytes_left [] y o = tt
bytes_left (b ∷ x) y o = true→T (ltb b 256 && is_bytes x) (rw (T→true (ltb b 256) (and_l (ltb b 256) (is_bytes (x ++ y)) o), T→true (is_bytes x) (bytes_left x y (and_r (ltb b 256) (is_bytes (x ++ y)) o))) refl)

bytes_right : (x y : List ℕ) → T (is_bytes (x ++ y)) → T (is_bytes y)
bytes_right [] y o = o
bytes_right (b ∷ x) y o = bytes_right x y (and_r (ltb b 256) (is_bytes (x ++ y)) o)

octets_of : (ms : List Msg) → T (is_bytes (texts ms)) → Octets ms
octets_of [] o = tt
octets_of (m ∷ ms) o = (bytes_left m.text (texts ms) o, octets_of ms (bytes_right m.text (texts ms) o))

-- so, for a file of bytes, with no other condition
pub file_holdable : (C M : ℕ) (file : List ℕ) (ms : List Msg) → T (is_bytes file) → judge_file file ≡ taken ms → Holdable C M (imported C M ms)
file_holdable C M file ms o e = imported_holdable C M file ms e (octets_of ms (rw (file_texts file ms e) o))

-- and sent whole it gives exactly itself, whatever stood there
pub file_sent_whole : (limit C M : ℕ) (file : List ℕ) (ms : List Msg) (x : Session) → T (is_bytes file) → judge_file file ≡ taken ms → apply_all C M (whole.all_changes (whole_batches limit (imported C M ms))) x ≡ imported C M ms
file_sent_whole limit C M file ms x o e = whole_is_exact limit C M (imported C M ms) x (file_holdable C M file ms o e)
