-- What was read stays read if more bytes stand behind it: parsers once, and the frame at the start of the bytes. Assumes nothing.
use mathlib.Core.Path.{◌≡◌, refl, sym, ◌∙◌}
use mathlib.Core.Bool.{Bool, true, false, cond}
use mathlib.Core.List.{List, ◌++◌}
use Prim.Native.Nat.{ℕ, zero, suc, ◌+◌, ◌-◌, ◌≤◌}
use native.Mathlib.Omega.{arith}
use borrow.Author.Tests.{leb-true, le-leb, ltb-false, le-ltb}
use lib.Dec.{leb, ltb, eqb}
use lib.ListN.{length, take, drop, length-append, length-drop}
use lib.Seq.{take-append-le, drop-append-le}
use Rattle.model_text.specs.Utf8.{utf8}
use Rattle.model_text.specs.Printable.{is_marks}
use Rattle.model_text.specs.Stamp.{takes_stamp}
use Rattle.model_frame.specs.Bytes.{le}
use Rattle.model_frame.specs.Frame.{Fault, truncated, too_long, Frame, Decoded, more, faulty, got}
use Rattle.model_frame.specs.Parse.{Res, ok, bad, Parser, and_then, ◌>>=◌, pure, fail, read_bytes, read_num, read_blob, read_text, many}
use Rattle.model_frame.specs.Reading.{max_body, read_stamp, read_marks, set_incoming_fields, set_incoming_in_flight_fields, set_in_flight_fields, record_msg_fields, record_bare_fields, set_created_at_fields, set_marks_fields, read_change, read_app_record, read_body, decoded_as, decode}
use Rattle.model_frame.proofs.Sound.{more_got}

pub record Grows {A : Type 0} (p : Parser A) : Type 0 where
  pub grows : (s t : List ℕ) {a : A} {s' : List ℕ} → p s ≡ ok a s' → p (s ++ t) ≡ ok a (s' ++ t)

-- ---- each way to make a parser

pub grow_done : {A : Type 0} {b : A} → Grows (pure b)
grow_done = record { grows = λ s t e. cc }

pub grow_fail : {A : Type 0} {e : Fault} → Grows {A = A} (fail e)
grow_fail = record { grows = λ s t e. cc }

pub grow_cond : {A : Type 0} (t : Bool) {p q : Parser A} → Grows p → Grows q → Grows (cond t p q)
grow_cond true y n = y
grow_cond false y n = n

pub grow_then : {A B : Type 0} {p : Parser A} {f : A → Parser B} → Grows p → ((a : A) → Grows (f a)) → Grows (p >>= f)
grow_then {A = A} {B = B} {p = p} {f = f} g k = record { grows = λ s t e. go s t (p s) refl e }
  where
    go : (s t : List ℕ) (r : Res A) {b : B} {s' : List ℕ} → p s ≡ r → and_then r f ≡ ok b s' → and_then (p (s ++ t)) f ≡ ok b (s' ++ t)
    go s t (ok a s₁) q e = rw (g.grows s t q) ((k a).grows s₁ t e)
    go s t (bad x) q e = cc

-- ---- the parsers

grow_bytes : (n : ℕ) → Grows (read_bytes n)
unfolding read_bytes
grow_bytes n = record { grows = λ s t e. go s t (leb n (length s)) refl e }
  where
    go :
        (s t : List ℕ) (b : Bool) {bs s' : List ℕ} → leb n (length s) ≡ b → cond b (ok (take n s) (drop n s)) (bad truncated) ≡ ok bs s' →
        cond (leb n (length (s ++ t))) (ok (take n (s ++ t)) (drop n (s ++ t))) (bad truncated) ≡ ok bs (s' ++ t)
    go s t true q e =
        let fits : n ≤ length s = leb-true n (length s) q in
        let longer : n ≤ length (s ++ t) = omega (arith, length-append s t) in
        rw (le-leb n (length (s ++ t)) longer, take-append-le n s t fits, drop-append-le n s t fits) (cc)
    go s t false q e = cc

pub grow_num : (n : ℕ) → Grows (read_num n)
unfolding read_num
grow_num n = grow_then (grow_bytes n) (λ bs. grow_done)

grow_blob : Grows read_blob
unfolding read_blob
grow_blob = grow_then (grow_num 4) grow_bytes

grow_text : Grows read_text
unfolding read_text
grow_text = grow_then grow_blob (λ bs. grow_cond (utf8 bs) grow_done grow_fail)

pub grow_many : {A : Type 0} {p : Parser A} → Grows p → (n : ℕ) → Grows (many n p)
unfolding many
grow_many g zero = grow_done
grow_many g (suc n) = grow_then g (λ x. grow_then (grow_many g n) (λ xs. grow_done))

grow_stamp : (version : ℕ) → Grows (read_stamp version)
unfolding read_stamp
grow_stamp version = grow_then grow_text (λ t. grow_cond (takes_stamp version t) grow_done grow_fail)

grow_marks : Grows read_marks
unfolding read_marks
grow_marks = grow_then grow_text (λ t. grow_cond (is_marks t) grow_done grow_fail)

pub change_grows : (version : ℕ) → Grows (read_change version)
unfolding read_change set_incoming_fields set_incoming_in_flight_fields set_in_flight_fields record_msg_fields record_bare_fields set_created_at_fields set_marks_fields
change_grows version =
    grow_then (grow_num 1)
    (λ k.
    grow_cond (eqb k 1) (grow_then (grow_num 8) (λ n. grow_done))
    (grow_cond (eqb k 2) (grow_then (grow_num 8) (λ n. grow_then (grow_num 8) (λ f. grow_done)))
    (grow_cond (eqb k 3) (grow_then (grow_num 8) (λ n. grow_done))
    (grow_cond (eqb k 4) (grow_then (grow_num 8) (λ n. grow_then grow_blob (λ m. grow_done)))
    (grow_cond (eqb k 5) (grow_then (grow_num 8) (λ n. grow_done))
    (grow_cond (eqb k 6) grow_done
    (grow_cond (eqb k 7) (grow_then (grow_stamp version) (λ t. grow_done))
    (grow_cond (eqb k 8) (grow_then grow_marks (λ t. grow_done)) grow_fail))))))))

pub record_grows : Grows read_app_record
unfolding read_app_record
record_grows = grow_then (grow_num 2) (λ k. grow_then grow_blob (λ bs. grow_done))

-- ---- the frame at the start of the bytes

-- once no more is needed, what follows changes nothing: neither a frame nor a fault
pub decode_grows : (version : ℕ) (w t : List ℕ) → (decode version w ≡ more → ⊥) → decode version (w ++ t) ≡ decode version w
unfolding decode
decode_grows version w t = first (ltb (length w) 4) refl
  where
    n : ℕ
    n = le (take 4 w)

    read : List ℕ → Decoded
    read s = decoded_as (4 + n) (read_body version (take n s))

    after : (k : ℕ) (s : List ℕ) → Decoded
    after k s = cond (ltb max_body n) (faulty (too_long n)) (cond (ltb k n) more (read s))

    all : length (w ++ t) ≡ length w + length t
    all = length-append w t

    then :
        4 ≤ length w → (b c : Bool) → ltb max_body n ≡ b → ltb (length w - 4) n ≡ c → (cond b (faulty (too_long n)) (cond c more (read (drop 4 w))) ≡ more → ⊥) →
        cond b (faulty (too_long n)) (cond (ltb (length (w ++ t) - 4) n) more (read (drop 4 w ++ t))) ≡ cond b (faulty (too_long n)) (cond c more (read (drop 4 w)))
    then four true c p q h = refl
    then four false true p q h = absurd (h refl)
    then four false false p q h =
        let fits : n ≤ length w - 4 = ltb-false (length w - 4) n q in
        let here : n ≤ length (drop 4 w) = omega (arith, length-drop 4 w) in
        rw (le-ltb (length (w ++ t) - 4) n (omega (arith, all)), take-append-le n (drop 4 w) t here)

    first : (b : Bool) → ltb (length w) 4 ≡ b → (cond b more (after (length w - 4) (drop 4 w)) ≡ more → ⊥) → decode version (w ++ t) ≡ cond b more (after (length w - 4) (drop 4 w))
    first true e h = absurd (h refl)
    first false e h =
        let four : 4 ≤ length w = ltb-false (length w) 4 e in
        rw (le-ltb (length (w ++ t)) 4 (omega (arith, all)), take-append-le 4 w t four, drop-append-le 4 w t four)
        (then four (ltb max_body n) (ltb (length w - 4) n) refl refl h)

pub decode_got_grows : (version : ℕ) (w t : List ℕ) {f : Frame} {used : ℕ} → decode version w ≡ got f used → decode version (w ++ t) ≡ got f used
decode_got_grows version w t {f} {used} e = decode_grows version w t (λ m. more_got (sym m ∙ e)) ∙ e
