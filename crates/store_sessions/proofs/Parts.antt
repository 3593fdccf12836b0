-- Keys, summaries and messages of a place, from those of its parts. Assumes nothing.
use mathlib.Core.Path.{◌≡◌, sym, ap, ◌∙◌, subst, subst₂}
use mathlib.Core.Bool.{Bool, false, cond}
use mathlib.Core.List.{List, ◌∷◌, ◌++◌}
use Prim.Native.Nat.{ℕ, ◌+◌, ◌-◌, ◌<◌}
use native.Mathlib.Omega.{arith}
use lib.ListN.{length, take, drop, get_or}
use borrow.Rule.Slice.PartMut.{mid_of}
use Rattle.model_frame.specs.Frame.{Key}
use Rattle.model_session.specs.Session.{suits}
use Rattle.model_session.specs.Summary.{last_out, summary}
use Rattle.model_standby.specs.Store.{Place, same_key}
use Rattle.frame_fields.specs.declared.Summary.{Summary}
use Rattle.frame_fields.specs.Answers.{summary_of}
use Rattle.store_log.specs.Log.{msg}
use Rattle.store_place.specs.Place.{next_out_of, durable_of, stamp_of, stored_key, session_of, place_in, rest_in, PositionIn, FromIn, NextMessageIn}
use Rattle.store_areas.specs.declared.Shape.{Shape}
use Rattle.store_areas.specs.Areas.{place_words, place_bytes, words_at, bytes_at, in_use, Rules, SpotIn, slice, place_at, TextAt}
use Rattle.store_areas.proofs.Lifting.{spot_place, spot_words_part, spot_bytes_part}
use Rattle.store_areas.specs.declared.store.View.{View}
use Rattle.store_areas.specs.Over.{ViewWith}
use Rattle.store_areas.proofs.Reading.{part_of, out_is, in_is, flight_is, stamp_at, marks_at}
use Rattle.store_sessions.specs.Answers.{gives, refuses, SummaryAtPlace, TextsIn, summarised_at, rest_at, PositionAt, FromAt, NextMessageAt}

module _ (s : Shape) (i wa we ba be : ℕ) (w b : List ℕ) (at : SpotIn s i w b wa we ba be) (r : Rules s w b) (h : i < get_or w 0 0) where
  abbrev mw : List ℕ
  mw = mid_of wa (we - wa) w

  abbrev mb : List ℕ
  mb = mid_of ba (be - ba) b

  abbrev pw : List ℕ
  pw = slice (words_at s i) (place_words s) w

  abbrev pb : List ℕ
  pb = slice (bytes_at s i) (place_bytes s) b

  ew : mw ≡ pw
  ew = spot_words_part s i wa we ba be at.at w b r h

  eb : mb ≡ pb
  eb = spot_bytes_part s i wa we ba be at.at w b r h

  pub stands_in : (left dist : ℕ) → PositionAt s w b i left dist → PositionIn (length mb - 224) s.messages mw mb left dist
  unfolding PositionAt
  stands_in left dist g =
      let c : s.bytes ≡ length mb - 224 = omega (arith, at.bytes_part) in
      subst (λ (x : ℕ). PositionIn x s.messages mw mb left dist) c (subst₂ (λ x y. PositionIn s.bytes s.messages x y left dist) (sym ew) (sym eb) g)

  pub read_at : (left dist number start first rest left' dist' : ℕ) → NextMessageIn s.bytes s.messages mw mb left dist number start first rest left' dist'
      → NextMessageAt s w b i left dist number (ba + start) first (ba + 224) rest left' dist'
  unfolding PositionAt rest_at
  read_at left dist number start first rest left' dist' f =
      let long : length mb ≡ 224 + s.bytes = at.bytes_part in
      let front : take first (drop start mb) ≡ take first (drop (ba + start) b) = part_of s i wa we ba be w b at r h start first (omega (arith, f.inside, long)) in
      let again : take rest (drop 224 mb) ≡ take rest (drop (ba + 224) b) = part_of s i wa we ba be w b at r h 224 rest (omega (arith, f.front, long)) in
      let ends : be ≡ ba + (224 + s.bytes) = at.at.bytes_to ∙ ap (λ (x : ℕ). x + (224 + s.bytes)) (sym at.at.bytes_from) in
      record {
        is = subst₂ (λ x y. rest_in s.bytes s.messages x y left ≡ msg number (take first (drop (ba + start) b) ++ take rest (drop (ba + 224) b)) ∷ rest_in s.bytes s.messages x y left') ew eb
            (f.is ∙ (λ j. msg number (front j ++ again j) ∷ rest_in s.bytes s.messages mw mb left'));
        stands = subst₂ (λ x y. PositionIn s.bytes s.messages x y left' dist') ew eb f.stands;
        inside = omega (arith, f.inside, ends, at.bytes_end);
        inside_again = omega (arith, f.front, ends, at.bytes_end);
        fewer = f.fewer;
        nearer = f.nearer;
      }

-- ---- the same of a place that is lent

module _ (s : Shape) (i : ℕ) (w b x y : List ℕ) (is : place_in s.bytes s.messages x y ≡ place_at s w b i) where
  pub key_same : (t : Bool) (k : Key) → t ≡ same_key k (stored_key x y) → t ≡ same_key k (place_at s w b i).key
  unfolding place_in
  key_same t k e = e ∙ ap (λ (p : Place). same_key k p.key) is

  pub next_is : (n : ℕ) → n ≡ next_out_of x → n ≡ (place_at s w b i).stored.session.next_out
  unfolding place_in session_of
  next_is n e = e ∙ ap (λ (p : Place). p.stored.session.next_out) is

  pub durable_is : (t : Bool) → t ≡ durable_of x → t ≡ (place_at s w b i).stored.durable
  unfolding place_in
  durable_is t e = e ∙ ap (λ (p : Place). p.stored.durable) is

  pub suits_is : (version : ℕ) (t : Bool) → t ≡ suits version (stamp_of x y) → t ≡ suits version (place_at s w b i).stored.session.stamp
  unfolding place_in session_of
  suits_is version t e = e ∙ ap (λ (p : Place). suits version p.stored.session.stamp) is

  pub last_is : (n r M : ℕ) → M ≡ s.messages → r ≡ last_out (session_of s.bytes M x y) n → r ≡ last_out (place_at s w b i).stored.session n
  unfolding place_in
  last_is n r M em e = e ∙ ap (λ (N : ℕ). last_out (session_of s.bytes N x y) n) em ∙ ap (λ (p : Place). last_out p.stored.session n) is

pub from_at : (s : Shape) (i : ℕ) (w b x y : List ℕ) (M low left dist : ℕ) → M ≡ s.messages → x ≡ slice (words_at s i) (place_words s) w → y ≡ slice (bytes_at s i) (place_bytes s) b
    → FromIn s.bytes M low x y left dist → FromAt s w b i low left dist
unfolding PositionAt rest_at place_at place_in
from_at s i w b x y M low left dist em ex ey f =
    let g : FromIn s.bytes s.messages low (slice (words_at s i) (place_words s) w) (slice (bytes_at s i) (place_bytes s) b) left dist =
    subst (λ (N : ℕ). FromIn s.bytes N low (slice (words_at s i) (place_words s) w) (slice (bytes_at s i) (place_bytes s) b) left dist) em (subst₂ (λ u v. FromIn s.bytes M low u v left dist) ex ey f) in
    record { stands = g.stands; is = g.is }

-- ---- summaries

module _ (s : Shape) (i wa we ba be : ℕ) (w b : List ℕ) (at : SpotIn s i w b wa we ba be) (r : Rules s w b) (h : i < get_or w 0 0) where
  abbrev lw : List ℕ
  lw = mid_of wa (we - wa) w

  abbrev lb : List ℕ
  lb = mid_of ba (be - ba) b

  module _ (n : ℕ) (m : Summary) (M : ℕ) (x y : List ℕ) (em : M ≡ s.messages) (ex : x ≡ slice (words_at s i) (place_words s) w) (ey : y ≡ slice (bytes_at s i) (place_bytes s) b) (lent : SummaryAtPlace s.bytes M ba n x y m) where
    k : SummaryAtPlace s.bytes s.messages ba n lw lb m
    k =
        subst (λ (N : ℕ). SummaryAtPlace s.bytes N ba n lw lb m) em
        (subst₂ (λ u v. SummaryAtPlace s.bytes M ba n u v m) (ex ∙ sym (ew s i wa we ba be w b at r h)) (ey ∙ sym (eb s i wa we ba be w b at r h)) lent)

    stamp_there : TextAt b (place_at s w b i).stored.session.stamp m.created_at.at m.created_at.len
    stamp_there = subst (λ (j : ℕ). TextAt b (place_at s w b i).stored.session.stamp j m.created_at.len) (sym k.stamp_at) (stamp_at s i wa we ba be w b at r h m.created_at.len k.stamp_len k.stamp)

    marks_there : TextAt b (place_at s w b i).stored.session.marks m.marks.at m.marks.len
    marks_there = subst (λ (j : ℕ). TextAt b (place_at s w b i).stored.session.marks j m.marks.len) (sym k.marks_at) (marks_at s i wa we ba be w b at r h m.marks.len k.marks_len k.marks)

    pub summed_up : summary_of b m ≡ summary (place_at s w b i).stored.session n
    unfolding summary place_in
    summed_up = λ j. record {
      next_out = (k.out ∙ out_is s i wa we ba be w b at r h) j;
      next_in = (k.inc ∙ in_is s i wa we ba be w b at r h) j;
      in_flight = (k.flight ∙ flight_is s i wa we ba be w b at r h) j;
      stamp_text = stamp_there.is j;
      marks_text = marks_there.is j;
      last_outgoing = (k.last ∙ ap (λ (p : Place). last_out p.stored.session n) (spot_place s i wa we ba be at.at w b r h)) j;
    }

    pub texts_in : TextsIn b m
    texts_in = record { stamp = stamp_there.inside; marks = marks_there.inside }

module _ (s : Shape) (w b : List ℕ) (i n : ℕ) where
  pub summary_known : (v : View) (m : Summary) → ViewWith s w b i v → summary_of v.bytes.now m ≡ summary (place_at v.shape v.words.now v.bytes.now i).stored.session n → gives (summary_of b m) ≡ summarised_at s w b i n
  unfolding summarised_at
  summary_known v m o q =
      ap gives (ap (λ (c : List ℕ). summary_of c m) (sym o.bytes) ∙ q ∙ (λ j. summary (place_at (o.shape j) (o.words j) (o.bytes j) i).stored.session n))
      ∙ sym (ap (λ (t : Bool). cond t (gives (summary (place_at s w b i).stored.session n)) (refuses 25)) o.in_use)

  pub summary_refused : in_use s w b i ≡ false → refuses 25 ≡ summarised_at s w b i n
  unfolding summarised_at
  summary_refused e = sym (ap (λ (t : Bool). cond t (gives (summary (place_at s w b i).stored.session n)) (refuses 25)) e)
