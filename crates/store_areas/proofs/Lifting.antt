-- What is said of the words and bytes of one place, said of the store. Assumes nothing.
use mathlib.Core.Path.{◌≡◌, refl, sym, ap, ◌∙◌, subst}
use mathlib.Core.Logic.{◌⊎◌, inl, inr}
use mathlib.Core.List.{List, ◌++◌}
use mathlib.Core.Option.{some, map}
use Prim.Native.Nat.{ℕ, ◌+◌, ◌-◌, ◌*◌, ◌≤◌, ◌<◌}
use native.Mathlib.Omega.{arith}
use lib.ListN.{length, take, drop, get_or, get_elem?}
use lib.Seq.{length-take-le, take_at, drop_at}
use borrow.Rule.Slice.PartMut.{mid_of, post_of, put_mid, mid_len}
use Rattle.model_standby.specs.Store.{Stored, Place, on_stored, session_at}
use Rattle.store_place.specs.Only.{Only}
use Rattle.store_place.specs.Place.{place_in}
use Rattle.store_place.proofs.Fields.{only_none, only_put}
use Rattle.store_areas.specs.declared.Shape.{Shape}
use Rattle.store_areas.specs.Areas.{place_words, place_bytes, words_at, bytes_at, SpotIs, SpotIn, Room, Rules, slice, place_at, count_up, places_of, Changed}
use Rattle.store_areas.proofs.Lists.{count_length, count_same, count_at, count_one, inside, apart, part_kept, word_kept}

-- ---- a place in use lies within the areas

pub record Within (s : Shape) (i : ℕ) (w b : List ℕ) : Type 0 where
  pub words_in : words_at s i + place_words s ≤ length w
  pub bytes_in : bytes_at s i + place_bytes s ≤ length b
  pub messages_few : s.messages ≤ 65536
  pub bytes_few : s.bytes ≤ 33554432

pub within_room : (s : Shape) (i : ℕ) (w b : List ℕ) → Room s w b → i < s.places → Within s i w b
within_room s i w b r h = record {
  words_in = omega (arith, inside (place_words s) i s.places h, r.words_long);
  bytes_in = omega (arith, inside (place_bytes s) i s.places h, r.bytes_long);
  messages_few = r.messages_limit;
  bytes_few = r.bytes_limit;
}

pub within : (s : Shape) (i : ℕ) (w b : List ℕ) → Rules s w b → i < get_or w 0 0 → Within s i w b
within s i w b r h = within_room s i w b r.room (omega (arith, r.used))

-- ---- a part that is lent and put back

module _ (a n : ℕ) (l ys : List ℕ) (fits : a + n ≤ length l) (same : length ys ≡ length (mid_of a (a + n - a) l)) where
  size : a + n - a ≡ n
  size = omega arith

  pub part_lent : mid_of a (a + n - a) l ≡ slice a n l
  part_lent = ap (λ (k : ℕ). take k (drop a l)) size

  pub part_length : length (mid_of a (a + n - a) l) ≡ n
  part_length = mid_len a (a + n) l fits ∙ size

  pub part_own : slice a n (put_mid a (a + n - a) l ys) ≡ ys
  part_own =
      ap (take n) (drop_at (take a l) (ys ++ post_of a (a + n - a) l) a (length-take-le a l (omega arith)))
      ∙ take_at ys (post_of a (a + n - a) l) n (same ∙ part_length)

  pub part_only : Only a (a + n) l (put_mid a (a + n - a) l ys)
  part_only = only_put a (a + n) l ys (omega arith) fits same

-- ---- one place changes

module _ (s : Shape) (i : ℕ) (w w' b b' : List ℕ) (ow : Only (words_at s i) (words_at s i + place_words s) w w') (ob : Only (bytes_at s i) (bytes_at s i + place_bytes s) b b') where
  pub count_kept : get_or w' 0 0 ≡ get_or w 0 0
  count_kept = word_kept (words_at s i) (words_at s i + place_words s) 0 w w' ow (omega arith)

  pub other_place : (j : ℕ) → (j ≡ i → ⊥) → place_at s w' b' j ≡ place_at s w b j
  unfolding place_at
  other_place j ne =
      let pw : slice (words_at s j) (place_words s) w' ≡ slice (words_at s j) (place_words s) w = part_kept (words_at s i) (words_at s i + place_words s) (words_at s j) (place_words s) w w' ow (up (apart (place_words s) i j ne)) in
      let pb : slice (bytes_at s j) (place_bytes s) b' ≡ slice (bytes_at s j) (place_bytes s) b = part_kept (bytes_at s i) (bytes_at s i + place_bytes s) (bytes_at s j) (place_bytes s) b b' ob (apart (place_bytes s) i j ne) in
      λ k. place_in s.bytes s.messages (pw k) (pb k)
    where
      up : (j * place_words s + place_words s ≤ i * place_words s) ⊎ (i * place_words s + place_words s ≤ j * place_words s)
          → (words_at s j + place_words s ≤ words_at s i) ⊎ (words_at s i + place_words s ≤ words_at s j)
      up (inl h) = inl (omega arith)
      up (inr h) = inr (omega arith)

  pub changed_at : (f : Stored → Stored) → i < get_or w 0 0 → place_at s w' b' i ≡ on_stored f (place_at s w b i) → Changed s i f w w' b b'
  unfolding places_of
  changed_at f h e =
      let z : i ≡ 0 + i = omega arith in
      record {
        places = ap (count_up (place_at s w' b') 0) count_kept ∙ count_one (place_at s w b) (place_at s w' b') f 0 (get_or w 0 0) i i z h e other_place;
        words = ow;
        bytes = ob;
      }

  pub rules_kept_by : Rules s w b → Rules s w' b'
  rules_kept_by r = record {
    room = record {
      bytes_limit = r.room.bytes_limit;
      messages_limit = r.room.messages_limit;
      words_long = omega (arith, r.room.words_long, ow.same_length);
      bytes_long = omega (arith, r.room.bytes_long, ob.same_length);
    };
    used = omega (arith, r.used, count_kept);
    pending = omega (arith, r.pending, word_kept (words_at s i) (words_at s i + place_words s) 1 w w' ow (omega arith));
  }

pub rules_kept : (s : Shape) (i : ℕ) (f : Stored → Stored) (w w' b b' : List ℕ) → Changed s i f w w' b b' → Rules s w b → Rules s w' b'
rules_kept s i f w w' b b' c r = rules_kept_by s i w w' b b' c.words c.bytes r

-- ---- by functions that are lent the place's parts

module _ (s : Shape) (i : ℕ) (w b x y : List ℕ) (r : Rules s w b) (h : i < get_or w 0 0) where
  abbrev mw : List ℕ
  mw = mid_of (words_at s i) (words_at s i + place_words s - words_at s i) w

  abbrev mb : List ℕ
  mb = mid_of (bytes_at s i) (bytes_at s i + place_bytes s - bytes_at s i) b

  abbrev vw : List ℕ
  vw = put_mid (words_at s i) (words_at s i + place_words s - words_at s i) w x

  abbrev vb : List ℕ
  vb = put_mid (bytes_at s i) (bytes_at s i + place_bytes s - bytes_at s i) b y

  pub lent_place : place_in s.bytes s.messages mw mb ≡ place_at s w b i
  unfolding place_at
  lent_place =
      let v : Within s i w b = within s i w b r h in
      λ k. place_in s.bytes s.messages (part_lent (words_at s i) (place_words s) w mw v.words_in refl k) (part_lent (bytes_at s i) (place_bytes s) b mb v.bytes_in refl k)

  pub lift_both : (f : Stored → Stored) → length x ≡ length mw → length y ≡ length mb
      → place_in s.bytes s.messages x y ≡ on_stored f (place_in s.bytes s.messages mw mb) → Changed s i f w vw b vb
  unfolding place_at
  lift_both f sx sy e =
      let v : Within s i w b = within s i w b r h in
      changed_at s i w vw b vb (part_only (words_at s i) (place_words s) w x v.words_in sx) (part_only (bytes_at s i) (place_bytes s) b y v.bytes_in sy) f h
      ((λ k. place_in s.bytes s.messages (part_own (words_at s i) (place_words s) w x v.words_in sx k) (part_own (bytes_at s i) (place_bytes s) b y v.bytes_in sy k))
      ∙ e ∙ ap (on_stored f) lent_place)

  pub lift_words : (f : Stored → Stored) → length x ≡ length mw
      → place_in s.bytes s.messages x mb ≡ on_stored f (place_in s.bytes s.messages mw mb) → Changed s i f w vw b b
  unfolding place_at
  lift_words f sx e =
      let v : Within s i w b = within s i w b r h in
      changed_at s i w vw b b (part_only (words_at s i) (place_words s) w x v.words_in sx) (only_none (bytes_at s i) (bytes_at s i + place_bytes s) b) f h
      ((λ k. place_in s.bytes s.messages (part_own (words_at s i) (place_words s) w x v.words_in sx k) (sym (part_lent (bytes_at s i) (place_bytes s) b mb v.bytes_in refl) k))
      ∙ e ∙ ap (on_stored f) lent_place)

-- a place that is put back whole
pub record Put (s : Shape) (i : ℕ) (w w' b b' : List ℕ) (p : Place) : Type 0 where
  pub own : place_at s w' b' i ≡ p
  pub words : Only (words_at s i) (words_at s i + place_words s) w w'
  pub bytes : Only (bytes_at s i) (bytes_at s i + place_bytes s) b b'

put_both : (s : Shape) (i : ℕ) (w b x y : List ℕ) (r : Rules s w b) (h : i < get_or w 0 0) → length x ≡ length (mw s i w b x y r h) → length y ≡ length (mb s i w b x y r h)
    → Put s i w (vw s i w b x y r h) b (vb s i w b x y r h) (place_in s.bytes s.messages x y)
unfolding place_at
put_both s i w b x y r h sx sy =
    let v : Within s i w b = within s i w b r h in
    record {
      own = λ k. place_in s.bytes s.messages (part_own (words_at s i) (place_words s) w x v.words_in sx k) (part_own (bytes_at s i) (place_bytes s) b y v.bytes_in sy k);
      words = part_only (words_at s i) (place_words s) w x v.words_in sx;
      bytes = part_only (bytes_at s i) (place_bytes s) b y v.bytes_in sy;
    }

-- ---- the same where the code's own numbers say where the place stands

module _ (s : Shape) (i wa we ba be : ℕ) (at : SpotIs s i wa we ba be) (w b : List ℕ) (r : Rules s w b) (h : i < get_or w 0 0) where
  moved : (P : ℕ → ℕ → ℕ → ℕ → Type 0) → P (words_at s i) (words_at s i + place_words s) (bytes_at s i) (bytes_at s i + place_bytes s) → P wa we ba be
  moved P p =
      subst (λ (x : ℕ). P x we ba be) (sym at.words_from) (subst (λ (x : ℕ). P (words_at s i) x ba be) (sym at.words_to)
      (subst (λ (x : ℕ). P (words_at s i) (words_at s i + place_words s) x be) (sym at.bytes_from) (subst (P (words_at s i) (words_at s i + place_words s) (bytes_at s i)) (sym at.bytes_to) p)))

  pub spot_place : place_in s.bytes s.messages (mid_of wa (we - wa) w) (mid_of ba (be - ba) b) ≡ place_at s w b i
  spot_place = moved (λ c d e g. place_in s.bytes s.messages (mid_of c (d - c) w) (mid_of e (g - e) b) ≡ place_at s w b i) (lent_place s i w b w b r h)

  pub spot_both : (f : Stored → Stored) (x y : List ℕ) → length x ≡ length (mid_of wa (we - wa) w) → length y ≡ length (mid_of ba (be - ba) b)
      → place_in s.bytes s.messages x y ≡ on_stored f (place_in s.bytes s.messages (mid_of wa (we - wa) w) (mid_of ba (be - ba) b))
      → Changed s i f w (put_mid wa (we - wa) w x) b (put_mid ba (be - ba) b y)
  spot_both f x y =
      moved (λ c d e g. length x ≡ length (mid_of c (d - c) w) → length y ≡ length (mid_of e (g - e) b)
      → place_in s.bytes s.messages x y ≡ on_stored f (place_in s.bytes s.messages (mid_of c (d - c) w) (mid_of e (g - e) b))
      → Changed s i f w (put_mid c (d - c) w x) b (put_mid e (g - e) b y))
      (lift_both s i w b x y r h f)

  pub spot_words : (f : Stored → Stored) (x : List ℕ) → length x ≡ length (mid_of wa (we - wa) w)
      → ((y : List ℕ) → place_in s.bytes s.messages x y ≡ on_stored f (place_in s.bytes s.messages (mid_of wa (we - wa) w) y))
      → Changed s i f w (put_mid wa (we - wa) w x) b b
  spot_words f x =
      moved (λ c d e g. length x ≡ length (mid_of c (d - c) w)
      → ((y : List ℕ) → place_in s.bytes s.messages x y ≡ on_stored f (place_in s.bytes s.messages (mid_of c (d - c) w) y))
      → Changed s i f w (put_mid c (d - c) w x) b b)
      (λ k e. lift_words s i w b x b r h f k (e (mid_of (bytes_at s i) (bytes_at s i + place_bytes s - bytes_at s i) b)))

  -- the parts as the definitions have them
  pub spot_words_part : mid_of wa (we - wa) w ≡ slice (words_at s i) (place_words s) w
  spot_words_part =
      moved (λ c d e g. mid_of c (d - c) w ≡ slice (words_at s i) (place_words s) w) (part_lent (words_at s i) (place_words s) w (mid_of (words_at s i) (words_at s i + place_words s - words_at s i) w) (within s i w b r h).words_in refl)

  pub spot_bytes_part : mid_of ba (be - ba) b ≡ slice (bytes_at s i) (place_bytes s) b
  spot_bytes_part =
      moved (λ c d e g. mid_of e (g - e) b ≡ slice (bytes_at s i) (place_bytes s) b) (part_lent (bytes_at s i) (place_bytes s) b (mid_of (bytes_at s i) (bytes_at s i + place_bytes s - bytes_at s i) b) (within s i w b r h).bytes_in refl)

  -- parts that are put back whole, with another key too
  pub spot_put : (x y : List ℕ) → length x ≡ length (mid_of wa (we - wa) w) → length y ≡ length (mid_of ba (be - ba) b)
      → Put s i w (put_mid wa (we - wa) w x) b (put_mid ba (be - ba) b y) (place_in s.bytes s.messages x y)
  spot_put x y =
      moved (λ c d e g. length x ≡ length (mid_of c (d - c) w) → length y ≡ length (mid_of e (g - e) b)
      → Put s i w (put_mid c (d - c) w x) b (put_mid e (g - e) b y) (place_in s.bytes s.messages x y))
      (put_both s i w b x y r h)

  -- the parts lie within the areas, and how long they are
  pub spot_in : SpotIn s i w b wa we ba be
  spot_in =
      let v : Within s i w b = within s i w b r h in
      record {
        at = at;
        words_order = omega (arith, at.words_to, at.words_from);
        bytes_order = omega (arith, at.bytes_to, at.bytes_from);
        words_end = omega (arith, at.words_to, v.words_in);
        bytes_end = omega (arith, at.bytes_to, v.bytes_in);
        words_part = moved (λ c d e g. length (mid_of c (d - c) w) ≡ place_words s) (part_length (words_at s i) (place_words s) w (mid_of (words_at s i) (words_at s i + place_words s - words_at s i) w) v.words_in refl);
        bytes_part = moved (λ c d e g. length (mid_of e (g - e) b) ≡ place_bytes s) (part_length (bytes_at s i) (place_bytes s) b (mid_of (bytes_at s i) (bytes_at s i + place_bytes s - bytes_at s i) b) v.bytes_in refl);
        messages_few = v.messages_few;
      }

-- ---- what the list of places says

pub places_length : (s : Shape) (w b : List ℕ) → length (places_of s w b) ≡ get_or w 0 0
unfolding places_of
places_length s w b = count_length (place_at s w b) 0 (get_or w 0 0)

pub place_is : (s : Shape) (w b : List ℕ) (i : ℕ) → i < get_or w 0 0 → get_elem? (places_of s w b) i ≡ some (place_at s w b i)
unfolding places_of
place_is s w b i h =
    let z : i ≡ 0 + i = omega arith in
    count_at (place_at s w b) 0 (get_or w 0 0) i i z h

pub session_is : (s : Shape) (w b : List ℕ) (i : ℕ) → i < get_or w 0 0 → session_at (places_of s w b) i ≡ some (place_at s w b i).stored.session
session_is s w b i h = ap (map (λ (x : Place). x.stored.session)) (place_is s w b i h)

-- ---- the words before the places, but for the first, say nothing of them

pub heads_places : (s : Shape) (w w' b : List ℕ) → Only 1 66 w w' → places_of s w' b ≡ places_of s w b
unfolding places_of place_at
heads_places s w w' b o =
    ap (count_up (place_at s w' b) 0) (word_kept 1 66 0 w w' o (omega arith))
    ∙ count_same (place_at s w b) (place_at s w' b) 0 (get_or w 0 0) (λ j _ l. ap (λ (x : List ℕ). place_in s.bytes s.messages x (slice (bytes_at s j) (place_bytes s) b)) (part_kept 1 66 (words_at s j) (place_words s) w w' o (inr (omega arith))))
