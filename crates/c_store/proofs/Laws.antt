-- What the store's functions for C answer and leave, by the way they return. Assumes nothing.
use mathlib.Core.Path.{◌≡◌, refl, sym, ap, subst, ◌∙◌}
use mathlib.Core.Bool.{Bool, true, false, cond, not, ◌&&◌, true≢false}
use mathlib.Core.List.{List, [], ◌∷◌}
use Prim.Native.Nat.{ℕ, ◌-◌, ◌≤◌, ◌<◌}
use native.Mathlib.Omega.{arith}
use borrow.Author.Tests.{lt-ltb, le-ltb, le-leb, lt-leb}
use borrow.Rule.Slice.PartMut.{mid_of, put_mid}
use lib.Dec.{leb, ltb}
use lib.ListN.{length, take, get_or, set, length-reverse}
use lib.Seq.{length-take-le}
use Rattle.model_frame.specs.Frame.{Key, record_msg}
use Rattle.model_session.specs.Session.{Session, top}
use Rattle.model_session.specs.Summary.{numbered_from}
use Rattle.model_standby.specs.Store.{Stored, place_of, is_stored, on_stored, changed, mark_durable}
use Rattle.store_log.specs.Log.{rest_of}
use Rattle.store_place.specs.Place.{next_out_of, place_in, rest_in, PositionIn}
use Rattle.store_areas.specs.declared.Shape.{Shape}
use Rattle.store_areas.specs.declared.store.View.{View}
use Rattle.std.specs.Prelude.{Option, None, Result, Ok, Err, MatchResult, IsOkAnd}
use Rattle.base_refusals.specs.declared.Refusal.{Refusal}
use Rattle.base_refusals.specs.Numbers.{number_of, answer_number}
use Rattle.store_areas.specs.Over.{ViewWith, ViewInUse}
use Rattle.store_areas.specs.Areas.{durable_at, allowed, in_use, InUse, SpotIn, places_of, Changed, Making}
use Rattle.store_areas.proofs.Lifting.{places_length, spot_both, spot_words}
use Rattle.store_areas.proofs.Reading.{out_is}
use Rattle.store_areas.proofs.Marking.{marked}
use Rattle.store_areas.proofs.Ruling.{in_use_of}
use Rattle.store_sessions.proofs.Seeking.{not_stored, new_at}
use Rattle.store_sessions.specs.Answers.{stored_place, Opened, rest_at, PositionAt, FromAt}
use Rattle.c_store.specs.declared.StoreAnswer.{StoreAnswer}
use Rattle.c_store.specs.Total.{session_in, with_value, refused, answered, Reads, MadeIs, why_no_record, why_no_bare_record, ChangeIs, is_key_of, has_free_place, OpenIs}

no_zero : (n : ℕ) → 0 < n → n ≡ 0 → ⊥
no_zero n h e = omega arith

module _ {s : Shape} {i : ℕ} {w b : List ℕ} {t : Bool} (is : t ≡ in_use s w b i) where
  -- ---- reading

  reads_by : {f : Session → ℕ} {u : Bool} → t ≡ u → Reads s w b i f (cond u (with_value (f (session_in s w b i))) (refused 25))
  reads_by {f} e = record { answer = ap (λ (x : Bool). cond x (with_value (f (session_in s w b i))) (refused 25)) (sym e ∙ is) }

  pub reads_none : {f : Session → ℕ} {r : StoreAnswer} → t ≡ false → r ≡ refused 25 → Reads s w b i f r
  reads_none {f} e r = subst (Reads s w b i f) (sym r) (reads_by {f = f} e)

  -- ---- a change

  pub unfit : {why n : ℕ} {f : Stored → Stored} → t ≡ false → n ≡ 25 → ChangeIs s i why f w w b b n
  unfit {why} e q = record { answer = q ∙ ap (λ (x : Bool). cond x why 25) (sym e ∙ is); made = λ z. absurd (no_zero 25 (omega arith) (sym q ∙ z)); still = λ _. (refl, refl) }

  module _ (e : t ≡ true) where
    pub used : InUse s w b i
    used = in_use_of s w b i (sym is ∙ e)

    pub reads : {f : Session → ℕ} {v : ℕ} {r : StoreAnswer} → v ≡ f (session_in s w b i) → r ≡ with_value v → Reads s w b i f r
    reads {f} q g = subst (Reads s w b i f) (ap with_value (sym q) ∙ sym g) (reads_by {f = f} e)

    pub cannot : {why n r : ℕ} {f : Stored → Stored} → why ≡ n → 0 < n → r ≡ n → ChangeIs s i why f w w b b r
    cannot {why} {n} q h g = record { answer = g ∙ sym q ∙ ap (λ (x : Bool). cond x why 25) (sym e ∙ is); made = λ z. absurd (no_zero n h (sym g ∙ z)); still = λ _. (refl, refl) }

    pub made : {why : ℕ} {f : Stored → Stored} {w' b' : List ℕ} → why ≡ 0 → Changed s i f w w' b b' → ChangeIs s i why f w w' b b' 0
    made {why} q p = record { answer = sym q ∙ ap (λ (x : Bool). cond x why 25) (sym e ∙ is); made = λ _. p; still = λ z. absurd (true≢false z) }

    -- by a call that is lent the whole store
    pub made_through : {f : Stored → Stored} {w' v' b' c' : List ℕ} → Changed s i f w v' b c' → w' ≡ v' → b' ≡ c' → ChangeIs s i 0 f w w' b b' 0
    made_through {f} {w'} {v'} {b'} {c'} p x y = made refl (subst (λ (v : List ℕ). Changed s i f w v b b') (sym x) (subst (λ (c : List ℕ). Changed s i f w v' b c) (sym y) p))

    pub marked_there : {w' : List ℕ} → w' ≡ set w (durable_at s i) 1 → ChangeIs s i 0 mark_durable w w' b b 0
    marked_there q = subst (λ (x : List ℕ). ChangeIs s i 0 mark_durable w x b b 0) (sym q) (made refl (marked s i w b used.rules used.at))

    -- by a function that is lent the place's words, or its words and bytes
    module _ {wa we ba be : ℕ} (at : SpotIn s i w b wa we ba be) where
      pub next_is : {n : ℕ} → n ≡ next_out_of (mid_of wa (we - wa) w) → n ≡ (session_in s w b i).next_out
      next_is q = q ∙ out_is s i wa we ba be w b at used.rules used.at

      pub made_words : {why : ℕ} {f : Stored → Stored} (x : List ℕ) → why ≡ 0 → length x ≡ length (mid_of wa (we - wa) w)
          → ((y : List ℕ) → place_in s.bytes s.messages x y ≡ on_stored f (place_in s.bytes s.messages (mid_of wa (we - wa) w) y)) → ChangeIs s i why f w (put_mid wa (we - wa) w x) b b 0
      made_words {f = f} x q l p = made q (spot_words s i wa we ba be at.at w b used.rules used.at f x l p)

      pub made_both : {why : ℕ} {f : Stored → Stored} (x y : List ℕ) → why ≡ 0 → length x ≡ length (mid_of wa (we - wa) w) → length y ≡ length (mid_of ba (be - ba) b)
          → place_in s.bytes s.messages x y ≡ on_stored f (place_in s.bytes s.messages (mid_of wa (we - wa) w) (mid_of ba (be - ba) b))
          → ChangeIs s i why f w (put_mid wa (we - wa) w x) b (put_mid ba (be - ba) b y) 0
      made_both {f = f} x y q l m p = made q (spot_both s i wa we ba be at.at w b used.rules used.at f x y l m p)

      -- the number recorded is the next outgoing one
      pub recorded : (n : ℕ) (text x y : List ℕ) → n ≡ next_out_of (mid_of wa (we - wa) w) → n < top → length x ≡ length (mid_of wa (we - wa) w) → length y ≡ length (mid_of ba (be - ba) b)
          → place_in s.bytes s.messages x y ≡ on_stored (changed s.bytes s.messages (record_msg n text ∷ [])) (place_in s.bytes s.messages (mid_of wa (we - wa) w) (mid_of ba (be - ba) b))
          → ChangeIs s i (why_no_record (session_in s w b i).next_out) (changed s.bytes s.messages (record_msg (session_in s w b i).next_out text ∷ [])) w (put_mid wa (we - wa) w x) b (put_mid ba (be - ba) b y) 0
      recorded n text x y q h l m p =
          subst (λ (k : ℕ). ChangeIs s i (why_no_record k) (changed s.bytes s.messages (record_msg k text ∷ [])) w (put_mid wa (we - wa) w x) b (put_mid ba (be - ba) b y) 0) (next_is q)
          (made_both x y (ap (λ (u : Bool). cond u 0 40) (lt-ltb n top h)) l m p)

-- by a call that reads the view
pub read : {s : Shape} {w b : List ℕ} {i : ℕ} {f : Session → ℕ} (P : View → ℕ → Type 0) (v : Result View Refusal) (a : Result ℕ Refusal) {r : StoreAnswer}
    → ViewInUse s w b i v → MatchResult v (λ x. IsOkAnd a (P x)) (λ e. a ≡ Err e) → ((x : View) (n : ℕ) → ViewWith s w b i x → P x n → n ≡ f (session_in s w b i)) → r ≡ answered a → Reads s w b i f r
read P (Ok x) (Ok n) u c p e = reads refl u.in_use (p x n u c) e
read P (Ok x) (Err y) u c p e = absurd c
read P (Err y) a u c p e = reads_none refl u.0 (e ∙ ap answered c ∙ ap (λ (z : Refusal). refused (number_of z)) u.1)

-- ---- why a change can't be made

pub none_left : {n next : ℕ} → n ≡ next → n ≡ top → why_no_record next ≡ 40
none_left {n} {next} q e = ap (λ (u : Bool). cond u 0 40) (le-ltb next top (omega (arith, q, e)))

pub below_next : {n next : ℕ} (seq : ℕ) → n ≡ next → seq < n → why_no_bare_record next seq ≡ 40
below_next {n} {next} seq q h = ap (λ (u : Bool). cond (u && ltb seq top) 0 40) (lt-leb next seq (subst (λ (x : ℕ). seq < x) q h))

pub past_top : (next seq : ℕ) → seq ≡ top → why_no_bare_record next seq ≡ 40
past_top next seq e = go (leb next seq)
  where
    go : (u : Bool) → ◌≡◌ {A = ℕ} (cond (u && ltb seq top) 0 40) 40
    go true = ap (λ (v : Bool). cond v 0 40) (le-ltb seq top (omega (arith, e)))
    go false = refl

pub a_number : {n next : ℕ} (seq : ℕ) → n ≡ next → n ≤ seq → seq < top → why_no_bare_record next seq ≡ 0
a_number {n} {next} seq q h k = (λ j. cond (le-leb next seq (subst (λ (x : ℕ). x ≤ seq) q h) j && lt-ltb seq top k j) 0 40)

-- by a test that was made of the text
pub by_test : {t u v : Bool} (n : ℕ) → t ≡ u → t ≡ v → cond u 0 n ≡ cond v 0 n
by_test n p q = ap (λ (x : Bool). cond x 0 n) (sym p ∙ q)

-- ---- how many messages are stored

rest_length : (s : Shape) (w b : List ℕ) (i left dist : ℕ) → PositionAt s w b i left dist → length (rest_at s w b i left) ≡ left
unfolding PositionAt PositionIn rest_at rest_in rest_of
rest_length s w b i left dist p = length-reverse (take left _) ∙ length-take-le left _ p.many

pub counted : (s : Shape) (w b : List ℕ) (i left dist : ℕ) → FromAt s w b i 1 left dist → left ≡ length (numbered_from 1 (session_in s w b i).messages)
counted s w b i left dist f = sym (rest_length s w b i left dist f.stands) ∙ ap length f.is

-- ---- making

pub made_by : {s : Shape} {w w' b : List ℕ} {d : Result (Unit {0}) Refusal} {r : ℕ} → Making s w w' b d → r ≡ answer_number d → MadeIs s w w' b r
made_by p e = record { answer = e ∙ p.answer; words = p.words }

-- ---- opening

module _ (s : Shape) (w b : List ℕ) (k : Key) where
  abbrev At : ℕ
  At = place_of k (places_of s w b)

  abbrev Says : Bool → Bool → Bool → Bool → StoreAnswer
  Says ok key here room = cond ok (cond key (cond here (with_value At) (cond room (with_value At) (refused 20))) (refused 5)) (refused 25)

  -- found in the store as it is read
  pub found : {o : Option ℕ} (v : View) → v.shape ≡ s → v.words.now ≡ w → v.bytes.now ≡ b → o ≡ stored_place k (places_of v.shape v.words.now v.bytes.now) → o ≡ stored_place k (places_of s w b)
  found v x y z e = e ∙ (λ j. stored_place k (places_of (x j) (y j) (z j)))

  -- by what is known of the four tests
  by : (ok key here room : Bool) {w' b' : List ℕ} → allowed s w b ≡ ok → is_key_of k ≡ key → is_stored k (places_of s w b) ≡ here → has_free_place s w ≡ room
      → (((ok && key) && (not here && room)) ≡ true → Opened s k w w' b b') → (((ok && key) && (not here && room)) ≡ false → (w' ≡ w) × (b' ≡ b)) → OpenIs s k w w' b b' (Says ok key here room)
  by ok key here room a c h r p q = record {
    answer = sym (λ j. Says (a j) (c j) (h j) (r j));
    opened = λ e. p (sym (λ j. (a j && c j) && (not (h j) && r j)) ∙ e);
    still = λ e. q (sym (λ j. (a j && c j) && (not (h j) && r j)) ∙ e);
  }

  no : {A : Type 0} → false ≡ true → A
  no e = absurd (true≢false (sym e))

  answers : {x y : StoreAnswer} {w' b' : List ℕ} → x ≡ y → OpenIs s k w w' b b' y → OpenIs s k w w' b b' x
  answers {w' = w'} {b' = b'} g p = subst (λ (r : StoreAnswer). OpenIs s k w w' b b' r) (sym g) p

  module _ {t : Bool} (a : t ≡ allowed s w b) (e : t ≡ true) where
    module _ {u : Bool} (q : u ≡ is_key_of k) (f : u ≡ true) where
      pub opened : {i : ℕ} {w' v' b' c' : List ℕ} {r : StoreAnswer} → None ≡ stored_place k (places_of s w b) → i ≡ get_or w 0 0 → get_or w 0 0 < s.places → Opened s k w v' b c' → w' ≡ v' → b' ≡ c' → r ≡ with_value i → OpenIs s k w w' b b' r
      opened {w' = w'} {v' = v'} {b' = b'} n at l p x y g =
          let new = not_stored k (places_of s w b) n in
          answers (g ∙ ap with_value (at ∙ sym (new_at k (places_of s w b) new ∙ places_length s w b)))
          (by true true false true (sym a ∙ e) (sym q ∙ f) new (lt-ltb (get_or w 0 0) s.places l)
          (λ _. subst (λ (v : List ℕ). Opened s k w v b b') (sym x) (subst (λ (c : List ℕ). Opened s k w v' b c) (sym y) p)) (λ z. absurd (true≢false z)))
