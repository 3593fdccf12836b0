-- The handle that a Bind or a Batch was read to have stands in its bytes 5 to 8. Assumes nothing.
use mathlib.Core.Path.{◌≡◌, refl, sym, ap, subst, ◌∙◌}
use mathlib.Core.Bool.{Bool, true, false, cond, true≢false}
use mathlib.Core.List.{List, [], ◌∷◌}
use Prim.Native.Nat.{ℕ, suc, ◌-◌, ◌≤◌}
use native.Mathlib.Omega.{arith}
use lib.Dec.{leb, eqb}
use lib.ListN.{length, take, drop, length-drop}
use lib.Seq.{length-take-le, take-nil, take-take, drop-drop}
use borrow.Author.Tests.{leb-true, le-ltb}
use Rattle.model_frame.specs.Bytes.{le}
use Rattle.model_frame.specs.Frame.{Frame, hello, welcome, bind, batch, ack, nack, bound, checked, Fault, truncated, Decoded, more, faulty, got}
use Rattle.model_frame.specs.Parse.{Res, ok, bad, Parser, and_then, ◌>>=◌, pure, read_bytes, read_num, read_text}
use Rattle.model_frame.specs.Reading.{read_kinds, read_key, read_part, read_changes, read_app_records, read_reason, read_summary, hello_fields, welcome_fields, bind_fields, batch_fields, ack_fields, nack_fields, bound_fields, checked_fields, read_fields, at_end, read_body, decode}
use Rattle.model_frame.proofs.Sound.{Taking, decode_taking}
use Rattle.model_text.specs.Version.{latest}
use Rattle.model_standby.specs.Answer.{Given, damaged, intact, judged, given, handle_in}
use Rattle.model_standby.specs.State.{Call, on_frame_held, on_frame, flush, disconnected_from, promote, promote_unchecked}
use Rattle.standby_step.specs.Steps.{has_handle, handle_by, asks}
use Rattle.standby_step.specs.Calls.{handle_at, sought_by}

-- a Bind's and a Batch's handle stands in front of the fields t
abbrev First : List ℕ → ℕ → Type 0
First t h = (4 ≤ length t) × (h ≡ le (take 4 t))

abbrev Names : List ℕ → Frame → Type 0
Names t (hello v e node read_kinds) = Unit {0}
Names t (welcome e i) = Unit {0}
Names t (bind h e lag k) = First t h
Names t (batch h e n part cs apps) = First t h
Names t (ack h n) = Unit {0}
Names t (nack h r) = Unit {0}
Names t (bound h m) = Unit {0}
Names t (checked h e i) = Unit {0}

abbrev NamesIn : List ℕ → Res Frame → Type 0
NamesIn t (ok f u) = Names t f
NamesIn t (bad e) = Unit {0}

-- from anywhere on, and read at the start
record Reads (t : List ℕ) (p : Parser Frame) : Type 0 where
  reads : (u : List ℕ) → NamesIn t (p u)

record Starts (t : List ℕ) (p : Parser Frame) : Type 0 where
  says : NamesIn t (p t)

starts : {t : List ℕ} {p : Parser Frame} → Reads t p → Starts t p
starts {t = t} r = record { says = r.reads t }

reads_done : {t : List ℕ} {f : Frame} → Names t f → Reads t (pure f)
reads_done n = record { reads = λ u. n }

then_names : {A : Type 0} (t : List ℕ) (f : A → Parser Frame) (r : Res A) → ((a : A) → Reads t (f a)) → NamesIn t (and_then r f)
then_names t f (ok a v) k = (k a).reads v
then_names t f (bad e) k = tt

reads_then : {A : Type 0} {t : List ℕ} (p : Parser A) {f : A → Parser Frame} → ((a : A) → Reads t (f a)) → Reads t (p >>= f)
reads_then {t = t} p {f = f} k = record { reads = λ u. then_names t f (p u) k }

-- the four bytes in front are the handle
num_first : (t : List ℕ) (f : ℕ → Parser Frame) → (4 ≤ length t → Reads t (f (le (take 4 t)))) → Starts t (read_num 4 >>= f)
unfolding read_num read_bytes
num_first t f k = record { says = go (leb 4 (length t)) refl }
  where
    go : (x : Bool) → leb 4 (length t) ≡ x → NamesIn t (and_then (and_then (cond x (ok (take 4 t) (drop 4 t)) (bad truncated)) (λ bs. pure (le bs))) f)
    go true e = (k (leb-true 4 (length t) e)).reads (drop 4 t)
    go false e = tt

kind_first : (s : List ℕ) (f : ℕ → Parser Frame) → ((k : ℕ) → Starts (drop 1 s) (f k)) → NamesIn (drop 1 s) (and_then (read_num 1 s) f)
unfolding read_num read_bytes
kind_first s f k = go (leb 1 (length s))
  where
    go : (x : Bool) → NamesIn (drop 1 s) (and_then (and_then (cond x (ok (take 1 s) (drop 1 s)) (bad truncated)) (λ bs. pure (le bs))) f)
    go true = (k (le (take 1 s))).says
    go false = tt

row_or : {t : List ℕ} (b : Bool) {p q : Parser Frame} → Starts t p → Starts t q → Starts t (cond b p q)
row_or true a b = a
row_or false a b = b

hello_names : (t : List ℕ) → Reads t hello_fields
unfolding hello_fields
hello_names t = reads_then (read_num 2) (λ v. reads_then (read_num 8) (λ e. reads_then read_text (λ n. reads_then read_kinds (λ k. reads_done tt))))

welcome_names : (t : List ℕ) → Reads t welcome_fields
unfolding welcome_fields
welcome_names t = reads_then (read_num 8) (λ e. reads_then (read_num 8) (λ i. reads_done tt))

bind_names : (t : List ℕ) → Starts t bind_fields
unfolding bind_fields
bind_names t = num_first t _ (λ l. reads_then (read_num 8) (λ e. reads_then (read_num 8) (λ lag. reads_then read_key (λ k. reads_done (l, refl)))))

batch_names : (version : ℕ) (t : List ℕ) → Starts t (batch_fields version)
unfolding batch_fields
batch_names version t =
    num_first t _ (λ l. reads_then (read_num 8) (λ e. reads_then (read_num 8) (λ n. reads_then read_part (λ p. reads_then (read_changes version) (λ cs. reads_then read_app_records (λ rs. reads_done (l, refl)))))))

ack_names : (t : List ℕ) → Reads t ack_fields
unfolding ack_fields
ack_names t = reads_then (read_num 4) (λ h. reads_then (read_num 8) (λ n. reads_done tt))

nack_names : (t : List ℕ) → Reads t nack_fields
unfolding nack_fields
nack_names t = reads_then (read_num 4) (λ h. reads_then read_reason (λ r. reads_done tt))

bound_names : (version : ℕ) (t : List ℕ) → Reads t (bound_fields version)
unfolding bound_fields
bound_names version t = reads_then (read_num 4) (λ h. reads_then (read_summary version) (λ m. reads_done tt))

checked_names : (t : List ℕ) → Reads t checked_fields
unfolding checked_fields
checked_names t = reads_then (read_num 4) (λ h. reads_then (read_num 8) (λ e. reads_then (read_num 8) (λ i. reads_done tt)))

fields_names : (version : ℕ) (s : List ℕ) → NamesIn (drop 1 s) (read_fields version s)
unfolding read_fields
fields_names version s =
    let t : List ℕ = drop 1 s in
    kind_first s _ (λ k.
    row_or (eqb k 1) (starts (hello_names t))
    (row_or (eqb k 2) (starts (welcome_names t))
    (row_or (eqb k 3) (bind_names t)
    (row_or (eqb k 4) (batch_names version t)
    (row_or (eqb k 5) (starts (ack_names t))
    (row_or (eqb k 6) (starts (nack_names t))
    (row_or (eqb k 7) (starts (bound_names version t))
    (row_or (eqb k 8) (starts (checked_names t)) (record { says = tt })))))))))

body_names : (version : ℕ) (s : List ℕ) {f : Frame} → read_body version s ≡ ok f [] → Names (drop 1 s) f
unfolding read_body
body_names version s {f} = go (read_fields version s) (fields_names version s)
  where
    clash : {x : Fault} → ◌≡◌ {A = Res Frame} (bad x) (ok f []) → ⊥
    clash e = let z : ◌≡◌ {A = ℕ} 0 1 = cc in omega arith

    go : (r : Res Frame) → NamesIn (drop 1 s) r → and_then r at_end ≡ ok f [] → Names (drop 1 s) f
    go (ok a []) n e = let q : a ≡ f = cc in subst (Names (drop 1 s)) q n
    go (ok a (x ∷ xs)) n e = absurd (clash e)
    go (bad x) n e = absurd (clash e)

-- ---- in a frame

behind_one : (m : ℕ) (l : List ℕ) → drop 1 (take (suc m) l) ≡ take m (drop 1 l)
behind_one m [] = sym (take-nil m)
behind_one m (x ∷ l) = refl

handle_bytes : (w : List ℕ) (n m : ℕ) → n ≡ suc m → 4 ≤ m → take 4 (drop 1 (take n (drop 4 w))) ≡ take 4 (drop 5 w)
handle_bytes w n m e four =
    ap (λ (k : ℕ). take 4 (drop 1 (take k (drop 4 w)))) e ∙ ap (take 4) (behind_one m (drop 4 w)) ∙ take-take 4 m (drop 1 (drop 4 w)) four ∙ ap (take 4) (drop-drop 1 4 w)

handle_long : (w : List ℕ) → 9 ≤ length w → handle_at w ≡ le (take 4 (drop 5 w))
handle_long w nine = ap (λ (t : Bool). cond t 0 (le (take 4 (drop 5 w)))) (le-ltb (length w) 9 nine)

at_five : (w : List ℕ) (n h : ℕ) → 4 ≤ length w → n ≤ length w - 4 → First (drop 1 (take n (drop 4 w))) h → handle_at w ≡ h
at_five w n h four fits f =
    let size : length (take n (drop 4 w)) ≡ n = length-take-le n (drop 4 w) (omega (arith, length-drop 4 w)) in
    let five : 5 ≤ n = omega (arith, f.0, length-drop 1 (take n (drop 4 w)), size) in
    handle_long w (omega arith) ∙ ap le (sym (handle_bytes w n (n - 1) (omega arith) (omega arith))) ∙ sym f.1

-- what was handed in as a frame was read as it, to its end
taken : (w : List ℕ) (f : Frame) → given latest w ≡ intact f → (used : ℕ) × (decode latest w ≡ got f used)
unfolding given
taken w f = go (decode latest w) refl
  where
    clash : {n : ℕ} → damaged n ≡ intact f → ⊥
    clash e = let z : ◌≡◌ {A = ℕ} 0 1 = cc in omega arith

    go : (d : Decoded) → decode latest w ≡ d → judged (length w) d ≡ intact f → (used : ℕ) × (decode latest w ≡ got f used)
    go more e q = absurd (clash q)
    go (faulty x) e q = absurd (clash q)
    go (got g used) e q = last (eqb used (length w)) q
      where
        last : (t : Bool) → cond t (intact g) (damaged 26) ≡ intact f → (used : ℕ) × (decode latest w ≡ got f used)
        last true q = let same : g ≡ f = cc in (used, e ∙ ap (λ (x : Frame). got x used) same)
        last false q = absurd (clash q)

read_names : (w : List ℕ) (f : Frame) → given latest w ≡ intact f → (4 ≤ length w) × (le (take 4 w) ≤ length w - 4) × Names (drop 1 (take (le (take 4 w)) (drop 4 w))) f
read_names w f e =
    let t : Taking latest w f (taken w f e).0 = decode_taking latest w (taken w f e).1 in
    (t.four, t.fits, body_names latest (take (le (take 4 w)) (drop 4 w)) t.whole)

frame_sought : (w : List ℕ) (g : Given) → given latest w ≡ g → has_handle g ≡ true → handle_at w ≡ handle_in g
frame_sought w (damaged n) e t = absurd (true≢false (sym t))
frame_sought w (intact (hello v e₁ node read_kinds)) e t = absurd (true≢false (sym t))
frame_sought w (intact (welcome e₁ i)) e t = absurd (true≢false (sym t))
frame_sought w (intact (bind h e₁ lag k)) e t = let r = read_names w (bind h e₁ lag k) e in at_five w (le (take 4 w)) h r.0 r.1 r.2
frame_sought w (intact (batch h e₁ n part cs apps)) e t = let r = read_names w (batch h e₁ n part cs apps) e in at_five w (le (take 4 w)) h r.0 r.1 r.2
frame_sought w (intact (ack h n)) e t = absurd (true≢false (sym t))
frame_sought w (intact (nack h r)) e t = absurd (true≢false (sym t))
frame_sought w (intact (bound h m)) e t = absurd (true≢false (sym t))
frame_sought w (intact (checked h e₁ i)) e t = absurd (true≢false (sym t))

-- what is looked up is the call's handle, if it has one
pub sought_own : (c : Call) → asks c ≡ true → sought_by c ≡ handle_by c
sought_own (on_frame_held w) t = frame_sought w (given latest w) refl t
sought_own (on_frame w) t = frame_sought w (given latest w) refl t
sought_own (flush n) t = absurd (true≢false (sym t))
sought_own (disconnected_from n) t = absurd (true≢false (sym t))
sought_own promote t = absurd (true≢false (sym t))
sought_own promote_unchecked t = absurd (true≢false (sym t))
