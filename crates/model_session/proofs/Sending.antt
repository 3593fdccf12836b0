-- Sending a session whole: the batches, joined, applied to any session give exactly the session sent; they fit from any
-- next outgoing; and their sizes.
-- Assumes nothing.
use mathlib.Core.Path.{◌≡◌, refl, sym, ap, subst, ◌∙◌}
use Prim.Native.Nat.{ℕ, suc, ◌+◌, ◌*◌, ◌-◌, ◌≤◌, ◌<◌}
use native.Mathlib.Omega.{arith}
use mathlib.Core.List.{List, [], ◌∷◌, ◌++◌, append_assoc, append-nil}
use mathlib.Core.Option.{Option, none, some}
use mathlib.Core.Bool.{Bool, true, false, cond}
use lib.ListN.{length, length-append}
use lib.Dec.{T, ltb, ltb→lt, nltb→le}
use Rattle.model_frame.specs.Frame.{Change, record_msg, reset, set_marks}
use Rattle.model_frame.specs.Sizes.{sizes}
use Rattle.model_frame.proofs.Runs.{sizes_append}
use Rattle.model_frame.specs.Parse.{Each}
use Rattle.model_text.specs.Stamp.{is_stamp, longest_stamp, longest_short}
use Rattle.model_text.specs.Printable.{is_marks}
use Rattle.model_text.proofs.Laws.{stamp_is, marks_is}
use Rattle.model_session.specs.Session.{Session, Msg, stored_bytes, has_space, evict, keep, apply, apply_all, fits, message_bytes, top, Rising, Holdable, is_stamp_or_none}
use Rattle.model_session.specs.Whole.{longest_like, hold_length, all_changes, stamp_part, skip_to, send_msg, incoming_part, closing, batch_if, batches_from, whole_batches}
use Rattle.model_session.proofs.Basics.{T→true, and_true, leb_true, ltb_true, eqb_true, cond-true, cond_cases, snoc_append}

-- ---- the changes in one list

abbrev pub sends : ℕ → List Msg → List Change
sends next [] = []
sends next (m ∷ ms) = send_msg next m ++ sends (suc m.num) ms

abbrev pub next_after : ℕ → List Msg → ℕ
next_after next [] = next
next_after next (m ∷ ms) = next_after (suc m.num) ms

abbrev pub whole_changes : Session → List Change
whole_changes a = (reset ∷ stamp_part a.stamp) ++ (sends 1 a.messages ++ closing a (next_after 1 a.messages))

joined_stands : (f : Bool) (now : List Change) (rest : List (List Change)) → all_changes (batch_if f now rest) ≡ cond f now [] ++ all_changes rest
joined_stands true now rest = refl
joined_stands false now rest = refl

regroup : (f : Bool) (now S R Q : List Change) → cond f now [] ++ ((cond f [] now ++ S) ++ (R ++ Q)) ≡ now ++ ((S ++ R) ++ Q)
regroup true now S R Q = simp append_assoc
regroup false now S R Q = simp append_assoc

module _ (limit : ℕ) (a : Session) where
  joined_from : (now : List Change) (bytes next : ℕ) (ms : List Msg) → all_changes (batches_from limit a now bytes next ms) ≡ now ++ (sends next ms ++ closing a (next_after next ms))
  joined_from now bytes next [] = append-nil (now ++ closing a next)
  joined_from now bytes next (m ∷ ms) =
      joined_stands (ltb limit bytes) now _
      ∙ ap (λ (l : List Change). cond (ltb limit bytes) now [] ++ l) (joined_from (cond (ltb limit bytes) [] now ++ send_msg next m) (cond (ltb limit bytes) 0 bytes + length m.text) (suc m.num) ms)
      ∙ regroup (ltb limit bytes) now (send_msg next m) (sends (suc m.num) ms) (closing a (next_after (suc m.num) ms))

  pub joined_whole : all_changes (whole_batches limit a) ≡ whole_changes a
  unfolding whole_batches
  joined_whole = joined_from (reset ∷ stamp_part a.stamp) 0 1 a.messages

-- ---- (a) applied to any session they give exactly the session sent

pub apply_all_append : (C M : ℕ) (x y : List Change) (s : Session) → apply_all C M (x ++ y) s ≡ apply_all C M y (apply_all C M x s)
apply_all_append C M [] y s = refl
apply_all_append C M (c ∷ x) y s = apply_all_append C M x y (apply C M c s)

module _ (C M : ℕ) where
  evict_none : (n : ℕ) (ms : List Msg) → has_space C M n ms ≡ true → evict C M n ms ≡ ms
  evict_none n [] h = refl
  evict_none n (m ∷ ms) h = ap (λ (b : Bool). cond b (m ∷ ms) (evict C M n ms)) h

  keep_all : (m : Msg) (ms : List Msg) → stored_bytes ms + length m.text ≤ C → suc (length ms) ≤ M → keep C M m ms ≡ ms ++ (m ∷ [])
  unfolding keep
  keep_all m ms hc hm =
      cond-true _ _ (and_true (leb_true {m = length m.text} {n = C} (omega arith)) (ltb_true {m = 0} {n = M} (omega arith)))
      ∙ ap (λ (l : List Msg). l ++ (m ∷ []))
      (evict_none (length m.text) ms (and_true (leb_true hc) (leb_true hm)))

pub total_append : (x y : List Msg) → stored_bytes (x ++ y) ≡ stored_bytes x + stored_bytes y
total_append [] y = omega arith
total_append (m ∷ x) y = omega (arith, total_append x y)

-- a session with these parts
abbrev parts : List ℕ → ℕ → Option ℕ → List ℕ → ℕ → List Msg → Session
parts st i fl mr next acc = record { stamp = st; next_out = next; next_in = i; in_flight = fl; marks = mr; messages = acc }

skip_eq : (next n : ℕ) → next ≤ n → T (ltb next n) → suc (n - 1) ≡ n
skip_eq next n h t = let l : next < n = ltb→lt next n t in omega arith

module _ (C M : ℕ) (st : List ℕ) (i : ℕ) (fl : Option ℕ) (mr : List ℕ) where
  apply_skip : (next n : ℕ) (acc : List Msg) → next ≤ n → apply_all C M (skip_to next n) (parts st i fl mr next acc) ≡ parts st i fl mr n acc
  unfolding apply
  apply_skip next n acc h =
      cond_cases (λ (l : List Change). apply_all C M l (parts st i fl mr next acc) ≡ parts st i fl mr n acc) (ltb next n)
      (λ t. ap (λ (x : ℕ). parts st i fl mr x acc) (skip_eq next n h t))
      (λ t. ap (λ (x : ℕ). parts st i fl mr x acc) (let l : n ≤ next = nltb→le next n t in omega arith))

  apply_sends : (next top₁ : ℕ) (acc ms : List Msg) → Rising next top₁ ms → stored_bytes acc + stored_bytes ms ≤ C → length acc + length ms ≤ M
      → apply_all C M (sends next ms) (parts st i fl mr next acc) ≡ parts st i fl mr (next_after next ms) (acc ++ ms)
  unfolding apply
  apply_sends next N acc [] r hc hm = ap (λ (l : List Msg). parts st i fl mr next l) (sym (append-nil acc))
  apply_sends next N acc (m ∷ ms) r hc hm =
      apply_all_append C M (send_msg next m) (sends (suc m.num) ms) (parts st i fl mr next acc)
      ∙ ap (apply_all C M (sends (suc m.num) ms)) one
      ∙ apply_sends (suc m.num) N (acc ++ (m ∷ [])) ms r.3 tot len
      ∙ ap (λ (l : List Msg). parts st i fl mr (next_after (suc m.num) ms) l) (snoc_append acc m ms)
    where
      low : next ≤ m.num
      low = r.0

      one : apply_all C M (send_msg next m) (parts st i fl mr next acc) ≡ parts st i fl mr (suc m.num) (acc ++ (m ∷ []))
      one =
          apply_all_append C M (skip_to next m.num) (record_msg m.num m.text ∷ []) (parts st i fl mr next acc)
          ∙ ap (apply_all C M (record_msg m.num m.text ∷ [])) (apply_skip next m.num acc low)
          ∙ ap (λ (l : List Msg). parts st i fl mr (suc m.num) l) (keep_all C M m acc (omega arith) (omega arith))

      tot : stored_bytes (acc ++ (m ∷ [])) + stored_bytes ms ≤ C
      tot = omega (arith, total_append acc (m ∷ []))

      len : length (acc ++ (m ∷ [])) + length ms ≤ M
      len = omega (arith, length-append acc (m ∷ []))

next_low : (next N : ℕ) (ms : List Msg) → next ≤ N → Rising next N ms → next_after next ms ≤ N
next_low next N [] h r = h
next_low next N (m ∷ ms) h r = next_low (suc m.num) N ms r.1 r.3

-- the incoming part and the marks
apply_end : (C M : ℕ) (a : Session) (acc : List Msg) → apply_all C M (incoming_part a.next_in a.in_flight ∷ set_marks a.marks ∷ []) (parts a.stamp 1 none [] a.next_out acc) ≡ parts a.stamp a.next_in a.in_flight a.marks a.next_out acc
unfolding apply
apply_end C M a acc = go a.in_flight
  where
    go : (f : Option ℕ) → apply_all C M (incoming_part a.next_in f ∷ set_marks a.marks ∷ []) (parts a.stamp 1 none [] a.next_out acc) ≡ parts a.stamp a.next_in f a.marks a.next_out acc
    go none = refl
    go (some f) = refl

apply_closing : (C M : ℕ) (a : Session) (next : ℕ) (acc : List Msg) → next ≤ a.next_out → apply_all C M (closing a next) (parts a.stamp 1 none [] next acc) ≡ parts a.stamp a.next_in a.in_flight a.marks a.next_out acc
apply_closing C M a next acc h =
    apply_all_append C M (skip_to next a.next_out) (incoming_part a.next_in a.in_flight ∷ set_marks a.marks ∷ []) (parts a.stamp 1 none [] next acc)
    ∙ ap (apply_all C M (incoming_part a.next_in a.in_flight ∷ set_marks a.marks ∷ [])) (apply_skip C M a.stamp 1 none [] next a.next_out acc h)
    ∙ apply_end C M a acc

apply_stamp : (C M : ℕ) (st : List ℕ) (b : Session) → apply_all C M (reset ∷ stamp_part st) b ≡ parts st 1 none [] 1 []
unfolding apply
apply_stamp C M [] b = refl
apply_stamp C M (x ∷ xs) b = refl

pub apply_whole : (C M : ℕ) (a b : Session) → Holdable C M a → apply_all C M (whole_changes a) b ≡ a
apply_whole C M a b h =
    apply_all_append C M (reset ∷ stamp_part a.stamp) _ b
    ∙ ap (apply_all C M (sends 1 a.messages ++ closing a (next_after 1 a.messages))) (apply_stamp C M a.stamp b)
    ∙ apply_all_append C M (sends 1 a.messages) _ (parts a.stamp 1 none [] 1 [])
    ∙ ap (apply_all C M (closing a (next_after 1 a.messages))) (apply_sends C M a.stamp 1 none [] 1 a.next_out [] a.messages h.msgs_rise (omega arith) (omega arith))
    ∙ apply_closing C M a (next_after 1 a.messages) a.messages (next_low 1 a.next_out a.messages h.out_low h.msgs_rise)

-- (a) the joined batches, applied to any session
pub whole_is_exact : (limit C M : ℕ) (a b : Session) → Holdable C M a → apply_all C M (all_changes (whole_batches limit a)) b ≡ a
whole_is_exact limit C M a b h = ap (λ (l : List Change). apply_all C M l b) (joined_whole limit a) ∙ apply_whole C M a b h

-- ---- (b) they fit from any next outgoing

fits_skip : (next n : ℕ) (rest : List Change) → next ≤ n → n ≤ top → fits n rest ≡ true → fits next (skip_to next n ++ rest) ≡ true
fits_skip next n rest h ht f =
    cond_cases (λ (l : List Change). fits next (l ++ rest) ≡ true) (ltb next n)
    (λ t. let l : next < n = ltb→lt next n t in
    and_true (and_true (leb_true {m = next} {n = n - 1} (omega arith)) (ltb_true {m = n - 1} {n = top} (omega arith)))
    (ap (λ (x : ℕ). fits x rest) (skip_eq next n h t) ∙ f))
    (λ t. let l : n ≤ next = nltb→le next n t in ap (λ (x : ℕ). fits x rest) (let e : next ≡ n = omega arith in e) ∙ f)

fits_sends : (next N : ℕ) (ms : List Msg) (rest : List Change) → N ≤ top → Rising next N ms → fits (next_after next ms) rest ≡ true → fits next (sends next ms ++ rest) ≡ true
fits_sends next N [] rest hN r f = f
fits_sends next N (m ∷ ms) rest hN r f =
    ap (fits next) shape
    ∙ fits_skip next m.num (record_msg m.num m.text ∷ (sends (suc m.num) ms ++ rest)) r.0 (omega arith)
    (and_true (and_true (eqb_true m.num) (ltb_true {m = m.num} {n = top} (omega arith))) (fits_sends (suc m.num) N ms rest hN r.3 f))
  where
    shape : sends next (m ∷ ms) ++ rest ≡ skip_to next m.num ++ (record_msg m.num m.text ∷ (sends (suc m.num) ms ++ rest))
    shape = simp append_assoc

fits_end : (next : ℕ) (n : ℕ) (f : Option ℕ) (mr : List ℕ) → fits next (incoming_part n f ∷ set_marks mr ∷ []) ≡ true
fits_end next n none mr = refl
fits_end next n (some f) mr = refl

fits_stamp : (next : ℕ) (st : List ℕ) (rest : List Change) → fits 1 rest ≡ true → fits next ((reset ∷ stamp_part st) ++ rest) ≡ true
fits_stamp next [] rest f = f
fits_stamp next (x ∷ xs) rest f = f

pub fits_whole : (C M : ℕ) (a : Session) (next : ℕ) → Holdable C M a → fits next (whole_changes a) ≡ true
fits_whole C M a next h =
    fits_stamp next a.stamp _
    (fits_sends 1 a.next_out a.messages (closing a (next_after 1 a.messages)) h.out_high h.msgs_rise
    (fits_skip (next_after 1 a.messages) a.next_out _ (next_low 1 a.next_out a.messages h.out_low h.msgs_rise) h.out_high (fits_end a.next_out a.next_in a.in_flight a.marks)))

-- (b) the joined batches
pub whole_fits : (limit C M : ℕ) (a : Session) (next : ℕ) → Holdable C M a → fits next (all_changes (whole_batches limit a)) ≡ true
whole_fits limit C M a next h = ap (fits next) (joined_whole limit a) ∙ fits_whole C M a next h

-- ---- (c) sizes

pub message_bytes_append : (x y : List Change) → message_bytes (x ++ y) ≡ message_bytes x + message_bytes y
message_bytes_append [] y = omega arith
message_bytes_append (c ∷ x) y = omega (arith, message_bytes_append x y)

sizes_skip : (next n : ℕ) → sizes (skip_to next n) ≤ 9
sizes_skip next n = cond_cases (λ (l : List Change). sizes l ≤ 9) (ltb next n) (λ _. omega arith) (λ _. omega arith)

bytes_skip : (next n : ℕ) → message_bytes (skip_to next n) ≡ 0
bytes_skip next n = cond_cases (λ (l : List Change). message_bytes l ≡ 0) (ltb next n) (λ _. refl) (λ _. refl)

sizes_sends : (next : ℕ) (ms : List Msg) → sizes (sends next ms) ≤ stored_bytes ms + 22 * length ms
sizes_sends next [] = omega arith
sizes_sends next (m ∷ ms) =
    omega (
      arith,
      sizes_append (send_msg next m) (sends (suc m.num) ms),
      sizes_append (skip_to next m.num) (record_msg m.num m.text ∷ []),
      sizes_skip next m.num,
      sizes_sends (suc m.num) ms,
    )

bytes_sends : (next : ℕ) (ms : List Msg) → message_bytes (sends next ms) ≡ stored_bytes ms
bytes_sends next [] = refl
bytes_sends next (m ∷ ms) =
    omega (
      arith,
      message_bytes_append (send_msg next m) (sends (suc m.num) ms),
      message_bytes_append (skip_to next m.num) (record_msg m.num m.text ∷ []),
      bytes_skip next m.num,
      bytes_sends (suc m.num) ms,
    )

-- a stamp is at most 30 bytes long
pub stamp_short : (s : List ℕ) → T (is_stamp_or_none s) → length s ≤ longest_stamp
stamp_short [] t = omega arith
stamp_short (x ∷ xs) t = (stamp_is (x ∷ xs) (T→true (is_stamp (x ∷ xs)) t)).most

-- and at most as long as its kind
pub stamp_like : (s : List ℕ) → T (is_stamp_or_none s) → length s ≤ longest_like s
stamp_like s t = cond_cases (λ (n : ℕ). length s ≤ n) (ltb longest_short (length s)) (λ _. stamp_short s t) (λ u. nltb→le longest_short (length s) u)

like_most : (s : List ℕ) → longest_like s ≤ longest_stamp
like_most s = cond_cases (λ (n : ℕ). n ≤ longest_stamp) (ltb longest_short (length s)) (λ _. omega arith) (λ _. omega arith)

-- a hold area for a long stamp takes any session
pub hold_most : (C M : ℕ) (s : List ℕ) → hold_length C M s ≤ C + 22 * M + 131
hold_most C M s = omega (arith, like_most s)

sizes_stamp : (n : ℕ) (s : List ℕ) → length s ≤ n → sizes (reset ∷ stamp_part s) ≤ 6 + n
sizes_stamp n [] h = omega arith
sizes_stamp n (x ∷ xs) h = omega arith

bytes_stamp : (s : List ℕ) → message_bytes (reset ∷ stamp_part s) ≡ 0
bytes_stamp [] = refl
bytes_stamp (x ∷ xs) = refl

sizes_end : (n : ℕ) (f : Option ℕ) (mr : List ℕ) → sizes (incoming_part n f ∷ set_marks mr ∷ []) ≤ 22 + length mr
sizes_end n none mr = omega arith
sizes_end n (some f) mr = omega arith

bytes_end : (n : ℕ) (f : Option ℕ) (mr : List ℕ) → message_bytes (incoming_part n f ∷ set_marks mr ∷ []) ≡ 0
bytes_end n none mr = refl
bytes_end n (some f) mr = refl

pub sizes_whole : (C M : ℕ) (a : Session) → Holdable C M a → sizes (whole_changes a) ≤ hold_length C M a.stamp
sizes_whole C M a h =
    omega (
      arith,
      sizes_append (reset ∷ stamp_part a.stamp) (sends 1 a.messages ++ closing a (next_after 1 a.messages)),
      sizes_append (sends 1 a.messages) (closing a (next_after 1 a.messages)),
      sizes_append (skip_to (next_after 1 a.messages) a.next_out) (incoming_part a.next_in a.in_flight ∷ set_marks a.marks ∷ []),
      sizes_skip (next_after 1 a.messages) a.next_out,
      sizes_end a.next_in a.in_flight a.marks,
      sizes_stamp (longest_like a.stamp) a.stamp (stamp_like a.stamp h.stamp_ok),
      sizes_sends 1 a.messages,
      h.msgs_bytes,
      h.msgs_count,
      (marks_is a.marks (T→true (is_marks a.marks) h.marks_ok)).most,
    )

pub bytes_whole : (a : Session) → message_bytes (whole_changes a) ≡ stored_bytes a.messages
bytes_whole a =
    omega (
      arith,
      message_bytes_append (reset ∷ stamp_part a.stamp) (sends 1 a.messages ++ closing a (next_after 1 a.messages)),
      message_bytes_append (sends 1 a.messages) (closing a (next_after 1 a.messages)),
      message_bytes_append (skip_to (next_after 1 a.messages) a.next_out) (incoming_part a.next_in a.in_flight ∷ set_marks a.marks ∷ []),
      bytes_skip (next_after 1 a.messages) a.next_out,
      bytes_end a.next_in a.in_flight a.marks,
      bytes_stamp a.stamp,
      bytes_sends 1 a.messages,
    )

-- (c) the encoded size of all changes
pub whole_size : (limit C M : ℕ) (a : Session) → Holdable C M a → sizes (all_changes (whole_batches limit a)) ≤ hold_length C M a.stamp
whole_size limit C M a h = subst (λ (l : List Change). sizes l ≤ hold_length C M a.stamp) (sym (joined_whole limit a)) (sizes_whole C M a h)

each_bytes : (n : ℕ) (bs : List (List Change)) → message_bytes (all_changes bs) ≤ n → Each (λ b. message_bytes b ≤ n) bs
each_bytes n [] h = tt
each_bytes n (b ∷ bs) h = (omega (arith, message_bytes_append b (all_changes bs)), each_bytes n bs (omega (arith, message_bytes_append b (all_changes bs))))

-- (c) each batch's message bytes
pub batch_bytes : (limit C M : ℕ) (a : Session) → Holdable C M a → Each (λ b. message_bytes b ≤ limit + C) (whole_batches limit a)
batch_bytes limit C M a h = each_bytes (limit + C) (whole_batches limit a) (omega (arith, ap message_bytes (joined_whole limit a), bytes_whole a, h.msgs_bytes))

each_sizes : (n : ℕ) (bs : List (List Change)) → sizes (all_changes bs) ≤ n → Each (λ b. sizes b ≤ n) bs
each_sizes n [] h = tt
each_sizes n (b ∷ bs) h = (omega (arith, sizes_append b (all_changes bs)), each_sizes n bs (omega (arith, sizes_append b (all_changes bs))))

-- (c) each batch's encoded changes
pub batch_sizes : (limit C M : ℕ) (a : Session) → Holdable C M a → Each (λ b. sizes b ≤ hold_length C M a.stamp) (whole_batches limit a)
batch_sizes limit C M a h = each_sizes (hold_length C M a.stamp) (whole_batches limit a) (whole_size limit C M a h)

-- there are no more batches than messages and one
batches_few : (limit : ℕ) (a : Session) (now : List Change) (bytes next : ℕ) (ms : List Msg) → length (batches_from limit a now bytes next ms) ≤ suc (length ms)
batches_few limit a now bytes next [] = omega arith
batches_few limit a now bytes next (m ∷ ms) = go (ltb limit bytes) (λ x y. batches_few limit a x y (suc m.num) ms)
  where
    go : (f : Bool) → ((x : List Change) (y : ℕ) → length (batches_from limit a x y (suc m.num) ms) ≤ suc (length ms))
        → length (batch_if f now (batches_from limit a (cond f [] now ++ send_msg next m) (cond f 0 bytes + length m.text) (suc m.num) ms)) ≤ suc (suc (length ms))
    go true ih = omega (arith, ih ([] ++ send_msg next m) (0 + length m.text))
    go false ih = omega (arith, ih (now ++ send_msg next m) (bytes + length m.text))

pub whole_few : (limit : ℕ) (a : Session) → length (whole_batches limit a) ≤ suc (length a.messages)
unfolding whole_batches
whole_few limit a = batches_few limit a (reset ∷ stamp_part a.stamp) 0 1 a.messages
