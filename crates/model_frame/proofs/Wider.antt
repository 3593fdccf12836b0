-- What some version reads, the latest reads too, and gives the same; what some version can write, the latest can. Assumes nothing.
use mathlib.Core.Path.{◌≡◌, refl, ap, ◌∙◌}
use mathlib.Core.Bool.{Bool, true, false, cond, ◌&&◌, ◌||◌}
use mathlib.Core.List.{List, [], ◌∷◌}
use Prim.Native.Nat.{ℕ, zero, suc, ◌+◌, ◌-◌}
use lib.Dec.{eqb, ltb}
use lib.ListN.{length, take, drop}
use Rattle.model_text.specs.Utf8.{utf8}
use Rattle.model_text.specs.Stamp.{takes_stamp}
use Rattle.model_text.specs.Version.{latest}
use Rattle.model_text.proofs.Laws.{takes_latest}
use Rattle.model_frame.specs.Bytes.{le}
use Rattle.model_frame.specs.Frame.{Change, set_incoming, set_incoming_in_flight, set_in_flight, record_msg, record_bare, reset, set_created_at, set_marks, Summary, Frame, hello, welcome, bind, batch, ack, nack, bound, checked, Fault, frameKind, change, unknown, too_long, bad_timestamp, more, faulty, got}
use Rattle.model_frame.specs.FrameKind
use Rattle.model_frame.specs.ChangeKind
use Rattle.model_frame.specs.Parse.{is_empty, Res, ok, bad, Parser, and_then, ◌>>=◌, pure, fail, read_num, read_text, read_count, many}
use Rattle.model_frame.specs.Reading.{max_body, read_stamp, read_stamp_or_none, set_incoming_fields, set_incoming_in_flight_fields, set_in_flight_fields, record_msg_fields, record_bare_fields, set_created_at_fields, set_marks_fields, read_change, read_changes, read_part, read_summary, hello_fields, welcome_fields, bind_fields, batch_fields, ack_fields, nack_fields, bound_fields, checked_fields, read_fields, at_end, read_body, decoded_as, decode}
use Rattle.model_frame.specs.Writing.{fine_change, all_fine, fine_summary, fine, Writable}
use Rattle.std.specs.Cmp.{first_so as and_left, second_so as and_right}

-- q reads whatever p reads
pub record Wider {A : Type 0} (p q : Parser A) : Type 0 where
  pub reads : (s : List ℕ) {a : A} {t : List ℕ} → p s ≡ ok a t → q s ≡ ok a t

pub same : {A : Type 0} (p : Parser A) → Wider p p
same p = record { reads = λ s e. e }

then_wider : {A B : Type 0} {p q : Parser A} {f g : A → Parser B} → Wider p q → ((a : A) → Wider (f a) (g a)) → Wider (p >>= f) (q >>= g)
then_wider {A = A} {B = B} {p = p} {q = q} {f = f} {g = g} h k = record { reads = λ s e. go s (p s) refl e }
  where
    go : (s : List ℕ) (r : Res A) {b : B} {t : List ℕ} → p s ≡ r → and_then r f ≡ ok b t → and_then (q s) g ≡ ok b t
    go s (ok a s₁) c e = rw (h.reads s c) ((k a).reads s₁ e)
    go s (bad x) c e = cc

-- p, and then what is wider
after : {A B : Type 0} (p : Parser A) {f g : A → Parser B} → ((a : A) → Wider (f a) (g a)) → Wider (p >>= f) (p >>= g)
after p k = then_wider (same p) k

-- a test that takes more
test_wider : {A : Type 0} (b c : Bool) (p : Parser A) (e : Fault) → (b ≡ true → c ≡ true) → Wider (cond b p (fail e)) (cond c p (fail e))
test_wider true c p e h = record { reads = λ s q. ap (λ (t : Bool). cond t p (fail e) s) (h refl) ∙ q }
test_wider false c p e h = record { reads = λ s q. cc }

many_wider : {A : Type 0} {p q : Parser A} → Wider p q → (n : ℕ) → Wider (many n p) (many n q)
unfolding many
many_wider w zero = same (pure [])
many_wider w (suc n) = then_wider w (λ x. then_wider (many_wider w n) (λ xs. same (pure (x ∷ xs))))

-- a row that is wider, and rows behind it
row_wider : {A : Type 0} (b : Bool) {p q p₁ q₁ : Parser A} → Wider p p₁ → Wider q q₁ → Wider (cond b p q) (cond b p₁ q₁)
row_wider true y n = y
row_wider false y n = n

module _ (version : ℕ) where
  stamp_wider : Wider (read_stamp version) (read_stamp latest)
  unfolding read_stamp
  stamp_wider = after read_text (λ t. test_wider (takes_stamp version t) (takes_stamp latest t) (pure t) bad_timestamp (takes_latest version t))

  or_none : (a b c : Bool) → (b ≡ true → c ≡ true) → (a || b) ≡ true → (a || c) ≡ true
  or_none true b c h e = refl
  or_none false b c h e = h e

  stamp_or_none_wider : Wider (read_stamp_or_none version) (read_stamp_or_none latest)
  unfolding read_stamp_or_none
  stamp_or_none_wider =
      after read_text
      (λ t. test_wider (is_empty t || takes_stamp version t) (is_empty t || takes_stamp latest t) (pure t) bad_timestamp (or_none (is_empty t) (takes_stamp version t) (takes_stamp latest t) (takes_latest version t)))

  pub change_wider : Wider (read_change version) (read_change latest)
  unfolding read_change set_created_at_fields
  change_wider =
      after (read_num 1)
      (λ k.
      row_wider (eqb k ChangeKind.set_incoming) (same set_incoming_fields)
      (row_wider (eqb k ChangeKind.set_incoming_in_flight) (same set_incoming_in_flight_fields)
      (row_wider (eqb k ChangeKind.set_in_flight) (same set_in_flight_fields)
      (row_wider (eqb k ChangeKind.record_msg) (same record_msg_fields)
      (row_wider (eqb k ChangeKind.record_bare) (same record_bare_fields)
      (row_wider (eqb k ChangeKind.reset) (same (pure reset))
      (row_wider (eqb k ChangeKind.set_created_at) (then_wider stamp_wider (λ t. same (pure (set_created_at t))))
      (row_wider (eqb k ChangeKind.set_marks) (same set_marks_fields)
      (same (fail (unknown change k)))))))))))

  changes_wider : Wider (read_changes version) (read_changes latest)
  unfolding read_changes
  changes_wider = after (read_count 1) (λ n. many_wider change_wider n)

  pub many_changes_wider : (n : ℕ) → Wider (many n (read_change version)) (many n (read_change latest))
  many_changes_wider n = many_wider change_wider n

  batch_wider : Wider (batch_fields version) (batch_fields latest)
  unfolding batch_fields
  batch_wider = after (read_num 4) (λ h. after (read_num 8) (λ e. after (read_num 8) (λ n. after read_part (λ p. then_wider changes_wider (λ cs. same _)))))

  summary_wider : Wider (read_summary version) (read_summary latest)
  unfolding read_summary
  summary_wider = after (read_num 8) (λ a. after (read_num 8) (λ b. after (read_num 8) (λ f. then_wider stamp_or_none_wider (λ t. same _))))

  bound_wider : Wider (bound_fields version) (bound_fields latest)
  unfolding bound_fields
  bound_wider = after (read_num 4) (λ h. then_wider summary_wider (λ m. same _))

  fields_wider : Wider (read_fields version) (read_fields latest)
  unfolding read_fields
  fields_wider =
      after (read_num 1)
      (λ k.
      row_wider (eqb k FrameKind.hello) (same hello_fields)
      (row_wider (eqb k FrameKind.welcome) (same welcome_fields)
      (row_wider (eqb k FrameKind.bind) (same bind_fields)
      (row_wider (eqb k FrameKind.batch) batch_wider
      (row_wider (eqb k FrameKind.ack) (same ack_fields)
      (row_wider (eqb k FrameKind.nack) (same nack_fields)
      (row_wider (eqb k FrameKind.bound) bound_wider
      (row_wider (eqb k FrameKind.checked) (same checked_fields)
      (same (fail (unknown frameKind k)))))))))))

  body_wider : Wider (read_body version) (read_body latest)
  unfolding read_body
  body_wider = then_wider fields_wider (λ f. same (at_end f))

  -- a frame that is read, read in the latest version
  pub decode_wider : (w : List ℕ) {f : Frame} {used : ℕ} → decode version w ≡ got f used → decode latest w ≡ got f used
  unfolding decode
  decode_wider w {f} {used} = go (ltb (length w) 4) (ltb max_body (le (take 4 w))) (ltb (length w - 4) (le (take 4 w))) (read_body version (take (le (take 4 w)) (drop 4 w))) refl
    where
      go : (a b c : Bool) (r : Res Frame) → read_body version (take (le (take 4 w)) (drop 4 w)) ≡ r
          → cond a more (cond b (faulty (too_long (le (take 4 w)))) (cond c more (decoded_as (4 + le (take 4 w)) r))) ≡ got f used
          → cond a more (cond b (faulty (too_long (le (take 4 w)))) (cond c more (decoded_as (4 + le (take 4 w)) (read_body latest (take (le (take 4 w)) (drop 4 w)))))) ≡ got f used
      go true b c r q e = e
      go false true c r q e = e
      go false false true r q e = e
      go false false false (ok g s) q e = ap (decoded_as (4 + le (take 4 w))) (body_wider.reads (take (le (take 4 w)) (drop 4 w)) q) ∙ e
      go false false false (bad x) q e = cc

  -- ---- writing: a frame that some version can write is written in the latest with the same bytes (`encode` has no version)

  both_wider : (a b c : Bool) → (b ≡ true → c ≡ true) → (a && b) ≡ true → (a && c) ≡ true
  both_wider true b c h e = h e
  both_wider false b c h e = e

  fine_change_latest : (c : Change) → fine_change version c ≡ true → fine_change latest c ≡ true
  fine_change_latest (set_incoming n) e = e
  fine_change_latest (set_incoming_in_flight n f) e = e
  fine_change_latest (set_in_flight f) e = e
  fine_change_latest (record_msg n m) e = e
  fine_change_latest (record_bare n) e = e
  fine_change_latest reset e = e
  fine_change_latest (set_created_at t) e = both_wider (utf8 t) (takes_stamp version t) (takes_stamp latest t) (takes_latest version t) e
  fine_change_latest (set_marks m) e = e

  all_fine_latest : (cs : List Change) → all_fine version cs ≡ true → all_fine latest cs ≡ true
  all_fine_latest [] e = e
  all_fine_latest (c ∷ cs) e =
      rw (fine_change_latest c (and_left (fine_change version c) (all_fine version cs) e)) (all_fine_latest cs (and_right (fine_change version c) (all_fine version cs) e))

  fine_summary_latest : (m : Summary) → fine_summary version m ≡ true → fine_summary latest m ≡ true
  unfolding fine_summary
  fine_summary_latest m e = go (utf8 m.stamp_text) (is_empty m.stamp_text) (takes_stamp version m.stamp_text) (takes_stamp latest m.stamp_text) _ (takes_latest version m.stamp_text) e
    where
      go : (a b c d r : Bool) → (c ≡ true → d ≡ true) → ((a && (b || c)) && r) ≡ true → ((a && (b || d)) && r) ≡ true
      go true true c d r h e = e
      go true false true d r h e = rw (h refl) e
      go true false false d r h e = cc
      go false b c d r h e = e

  pub fine_latest : (f : Frame) → fine version f ≡ true → fine latest f ≡ true
  unfolding fine
  fine_latest (hello v e node ks) q = q
  fine_latest (welcome e i) q = q
  fine_latest (bind h e lag k) q = q
  fine_latest (batch h e n p cs rs) q = all_fine_latest cs q
  fine_latest (ack h n) q = q
  fine_latest (nack h r) q = q
  fine_latest (bound h m) q = fine_summary_latest m q
  fine_latest (checked h e i) q = q

  pub writable_latest : (f : Frame) → Writable version f → Writable latest f
  writable_latest f w = record { ranged = w.ranged; texts = fine_latest f w.texts; short = w.short }
