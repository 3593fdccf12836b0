-- A place's key as parts of the byte area, the length of what is told, and the ways that telling ends. Assumes nothing.
use mathlib.Core.Path.{◌≡◌, refl, sym, ap, subst, subst₂, ◌∙◌}
use mathlib.Core.Bool.{Bool, true, false, cond}
use mathlib.Core.List.{List, ◌∷◌, ◌++◌}
use mathlib.Core.Option.{Option, none, some}
use Prim.Native.Nat.{ℕ, ◌+◌, ◌-◌, ◌≤◌, ◌<◌}
use native.Mathlib.Omega.{arith}
use borrow.Author.Tests.{le-leb, lt-leb}
use borrow.Rule.Slice.PartMut.{mid_of}
use lib.ListN.{length, take, drop, get_or, length-append}
use Rattle.model_frame.specs.Bytes.{write}
use Rattle.model_frame.specs.Frame as the_frame
use Rattle.model_frame.specs.Frame.{Key}
use Rattle.model_frame.specs.Writing.{key_bytes, summary_bytes, took}
use Rattle.model_frame.proofs.Le.{length_bytes}
use Rattle.model_frame.proofs.Sizes.{blob_size}
use Rattle.model_session.specs.Summary.{summary}
use Rattle.model_standby.specs.Store.{Place}
use Rattle.model_standby.specs.Row.{is_some}
use Rattle.base_laws.specs.Wrote.{Wrote}
use Rattle.base_bytes.specs.declared.writer.Writer.{Writer}
use Rattle.base_bytes.specs.Put.{Put}
use Rattle.frame_reader.specs.declared.Span.{Span}
use Rattle.frame_reader.specs.Answers.{span_of}
use Rattle.frame_fields.specs.declared.SessionId.{SessionId}
use Rattle.frame_fields.specs.declared.Summary.{Summary}
use Rattle.frame_fields.specs.Answers.{flight_of, key_of, summary_of}
use Rattle.frame_writer.specs.Encoding.{key_size, summary_size}
use Rattle.store_place.specs.declared.Key as lent
use Rattle.store_place.specs.Keys.{lent_key}
use Rattle.store_place.specs.Place.{field, stored_key, place_in}
use Rattle.store_place.proofs.Texts.{field_stands, field_length}
use Rattle.store_areas.specs.declared.Shape.{Shape}
use Rattle.store_areas.specs.Areas.{place_bytes, bytes_at, slice, in_use, Rules, SpotIn, place_at}
use Rattle.store_areas.proofs.Lifting.{spot_bytes_part}
use Rattle.store_areas.proofs.Reading.{part_of}
use mir.Val.{bool_byte}
use Rattle.std.specs.Prelude as prelude
use Rattle.std.specs.Prelude.{Result, Ok, Err, Some, None}
use Rattle.base_refusals.specs.declared.Refusal.{Refusal}
use Rattle.c_session.specs.Telling.{span_at, flag, told_bytes, told_at, session_outcome, TellsSession}

-- ---- parts of the byte area

-- ---- a key

module _ (x y : List ℕ) (k : lent.Key) (e : lent_key k ≡ stored_key x y) where
  pub begin_is : k.begin.now ≡ field y 0 32 (get_or x 7 0)
  unfolding stored_key
  begin_is = ap (λ (q : Key). q.begin) e

  pub sender_is : k.sender.now ≡ field y 32 32 (get_or x 8 0)
  unfolding stored_key
  sender_is = ap (λ (q : Key). q.sender) e

  pub target_is : k.target.now ≡ field y 64 32 (get_or x 9 0)
  unfolding stored_key
  target_is = ap (λ (q : Key). q.target) e

  pub suffix_is : k.suffix.now ≡ field y 96 32 (get_or x 10 0)
  unfolding stored_key
  suffix_is = ap (λ (q : Key). q.suffix) e

  pub begin_short : length k.begin.now < 4294967296
  begin_short = omega (arith, field_length y 0 32 (get_or x 7 0) k.begin.now begin_is)

  pub sender_short : length k.sender.now < 4294967296
  sender_short = omega (arith, field_length y 32 32 (get_or x 8 0) k.sender.now sender_is)

  pub target_short : length k.target.now < 4294967296
  target_short = omega (arith, field_length y 64 32 (get_or x 9 0) k.target.now target_is)

  pub suffix_short : length k.suffix.now < 4294967296
  suffix_short = omega (arith, field_length y 96 32 (get_or x 10 0) k.suffix.now suffix_is)

  module _ (s : Shape) (i wa we ba be : ℕ) (w b : List ℕ) (at : SpotIn s i w b wa we ba be) (r : Rules s w b) (h : i < get_or w 0 0)
      (ey : y ≡ slice (bytes_at s i) (place_bytes s) b) (is : place_in s.bytes s.messages x y ≡ place_at s w b i) where
    -- the text of a field, where the field stands in the byte area
    text : (j n a : ℕ) (t : List ℕ) → j + 32 ≤ 224 → a ≡ ba + j → t ≡ field y j 32 n → span_of b (span_at a t) ≡ t
    text j n a t gj ea et =
        let mb : List ℕ = mid_of ba (be - ba) b in
        let eb : mb ≡ y = spot_bytes_part s i wa we ba be at.at w b r h ∙ sym ey in
        let room : j + length t ≤ length mb = omega (arith, at.bytes_part, field_length y j 32 n t et) in
        ap (λ (c : ℕ). take (length t) (drop c b)) ea ∙ sym (part_of s i wa we ba be w b at r h j (length t) room)
        ∙ ap (λ (l : List ℕ). take (length t) (drop j l)) eb ∙ field_stands y j 32 n t et

    pub key_is : {p q u v : Span} → p ≡ span_at ba k.begin.now → q ≡ span_at (ba + 32) k.sender.now → u ≡ span_at (ba + 64) k.target.now → v ≡ span_at (ba + 96) k.suffix.now
        → key_of b (record { begin_string = p; sender_comp_id = q; target_comp_id = u; key_suffix = v }) ≡ (place_at s w b i).key
    unfolding place_in
    key_is ep eq eu ev =
        let start : ba ≡ ba + 0 = omega arith in
        (λ j. record {
          begin = (ap (span_of b) ep ∙ text 0 _ ba k.begin.now (omega arith) start begin_is) j;
          sender = (ap (span_of b) eq ∙ text 32 _ (ba + 32) k.sender.now (omega arith) refl sender_is) j;
          target = (ap (span_of b) eu ∙ text 64 _ (ba + 64) k.target.now (omega arith) refl target_is) j;
          suffix = (ap (span_of b) ev ∙ text 96 _ (ba + 96) k.suffix.now (omega arith) refl suffix_is) j;
        })
        ∙ e ∙ ap (λ (q : Place). q.key) is

-- ---- lengths

pub key_size_lem : (k : Key) → length (key_bytes k) ≡ key_size k
unfolding key_bytes
key_size_lem k = simp (length-append, blob_size) (omega arith)

summary_size_lem : (m : the_frame.Summary) → length (summary_bytes m) ≡ summary_size m
unfolding summary_bytes
summary_size_lem m = simp (length-append, length_bytes, blob_size) (omega arith)

told_size : (x : Place) (n : ℕ) → length (told_bytes x n) ≡ 2 + key_size x.key + summary_size (summary x.stored.session n)
unfolding told_bytes
told_size x n = omega (arith, length-append (key_bytes x.key) (summary_bytes (summary x.stored.session n)), key_size_lem x.key, summary_size_lem (summary x.stored.session n))

-- ---- a place in use, by its key and summary

-- the byte of a flag
pub flag_byte : (t : Bool) {n : ℕ} → n ≡ bool_byte t → n ≡ flag t
flag_byte true e = e
flag_byte false e = e

-- the byte that says whether a number is in flight
pub flight_byte : (o : prelude.Option ℕ) {t : Bool} {n : ℕ} → t ≡ prelude.is_some o → n ≡ bool_byte t → n ≡ flag (is_some (flight_of o))
flight_byte (Some k) p e = e ∙ ap bool_byte p
flight_byte None p e = e ∙ ap bool_byte p

-- the two flags, by their bytes
pub flagged : {d e d' e' : ℕ} {rest last : List ℕ} {w v : Writer} → d' ≡ d → e' ≡ e → Put w (d' ∷ e' ∷ rest) v → last ≡ v.out.now → Wrote w.out.now w.at (d ∷ e ∷ rest) last v.at
flagged {rest = rest} {w = w} {v = v} ed ee p q = rw q (subst₂ (λ (x y : ℕ). Wrote w.out.now w.at (x ∷ y ∷ rest) v.out.now v.at) ed ee p.wrote)

module _ (x : Place) (n : ℕ) (b : List ℕ) (k : SessionId) (m : Summary) {z : ℕ} (ek : key_of b k ≡ x.key) (em : summary_of b m ≡ summary x.stored.session n) (ez : z ≡ 2 + key_size (key_of b k) + summary_size (summary_of b m)) where
  size_is : z ≡ length (told_bytes x n)
  size_is = ez ∙ (λ j. 2 + key_size (ek j) + summary_size (em j)) ∙ sym (told_size x n)

  pub no_room : {out : List ℕ} → length out < z → TellsSession (some (told_bytes x n)) out out (Err Refusal.NoRoom)
  unfolding session_outcome
  no_room {out} h =
      let less : length out < length (told_bytes x n) = omega (arith, size_is) in
      record { answer = rw (lt-leb _ _ less); area = rw (lt-leb _ _ less) }

  pub told : {d : Bool} {out out' : List ℕ} {next : ℕ} → d ≡ x.stored.durable → z ≤ length out
      → Wrote out 0 (flag d ∷ flag (is_some (flight_of m.in_flight)) ∷ (key_bytes (key_of b k) ++ summary_bytes (summary_of b m))) out' next → TellsSession (some (told_bytes x n)) out out' (Ok next)
  unfolding session_outcome told_bytes summary
  told {d} {out} {out'} {next} ed h wr =
      let fits : length (told_bytes x n) ≤ length out = omega (arith, size_is) in
      let same : flag d ∷ flag (is_some (flight_of m.in_flight)) ∷ (key_bytes (key_of b k) ++ summary_bytes (summary_of b m)) ≡ told_bytes x n =
      (λ j. flag (ed j) ∷ flag (is_some (em j).in_flight) ∷ (key_bytes (ek j) ++ summary_bytes (em j))) in
      let past : next ≡ length (told_bytes x n) = omega (arith, wr.past, ap length same) in
      record {
        answer = rw (le-leb _ _ fits) (ap took past);
        area = rw (le-leb _ _ fits) (wr.bytes ∙ ap (write out 0) same);
      }

-- ---- any place

module _ (s : Shape) (w b : List ℕ) (i n : ℕ) {t : Bool} (is : t ≡ in_use s w b i) where
  told_by : {u : Bool} → t ≡ u → cond u (some (told_bytes (place_at s w b i) n)) none ≡ told_at s w b i n
  unfolding told_at
  told_by e = ap (λ (x : Bool). cond x (some (told_bytes (place_at s w b i) n)) none) (sym e ∙ is)

  pub told_there : {out out' : List ℕ} {r : Result ℕ Refusal} → t ≡ true → TellsSession (some (told_bytes (place_at s w b i) n)) out out' r → TellsSession (told_at s w b i n) out out' r
  told_there {out} {out'} {r} e k = subst (λ (x : Option (List ℕ)). TellsSession x out out' r) (told_by e) k

  pub unfit : {out : List ℕ} → t ≡ false → TellsSession (told_at s w b i n) out out (Err Refusal.RulesBroken)
  unfolding session_outcome
  unfit {out} e = subst (λ (x : Option (List ℕ)). TellsSession x out out (Err Refusal.RulesBroken)) (told_by e) (record { answer = refl; area = refl })
