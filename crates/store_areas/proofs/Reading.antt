-- What is read of the parts of a place, said of the place. Assumes nothing.
use mathlib.Core.Path.{◌≡◌, sym, ap, ◌∙◌}
use mathlib.Core.List.{List}
use Prim.Native.Nat.{ℕ, ◌+◌, ◌-◌, ◌≤◌, ◌<◌}
use native.Mathlib.Omega.{arith}
use lib.ListN.{length, take, drop, get_or, length-take}
use lib.Seq.{drop-drop}
use borrow.Rule.Slice.PartMut.{mid_of}
use Rattle.model_standby.specs.Store.{Place}
use Rattle.store_log.proofs.Spans.{within}
use Rattle.store_place.specs.Place.{next_out_of, stored_flight, durable_of, stamp_of, marks_of, session_of, place_in}
use Rattle.store_areas.specs.declared.Shape.{Shape}
use Rattle.store_areas.specs.Areas.{Rules, SpotIn, place_at, TextAt}
use Rattle.store_areas.proofs.Lifting.{spot_place}

module _ (s : Shape) (i wa we ba be : ℕ) (w b : List ℕ) (at : SpotIn s i w b wa we ba be) (r : Rules s w b) (h : i < get_or w 0 0) where
  abbrev mw : List ℕ
  mw = mid_of wa (we - wa) w

  abbrev mb : List ℕ
  mb = mid_of ba (be - ba) b

  pub lent : place_in s.bytes s.messages mw mb ≡ place_at s w b i
  lent = spot_place s i wa we ba be at.at w b r h

  pub out_is : next_out_of mw ≡ (place_at s w b i).stored.session.next_out
  unfolding place_in session_of
  out_is = ap (λ (p : Place). p.stored.session.next_out) lent

  pub in_is : get_or mw 1 0 ≡ (place_at s w b i).stored.session.next_in
  unfolding place_in session_of
  in_is = ap (λ (p : Place). p.stored.session.next_in) lent

  pub flight_is : stored_flight mw ≡ (place_at s w b i).stored.session.in_flight
  unfolding place_in session_of
  flight_is = ap (λ (p : Place). p.stored.session.in_flight) lent

  pub durable_is : durable_of mw ≡ (place_at s w b i).stored.durable
  unfolding place_in session_of
  durable_is = ap (λ (p : Place). p.stored.durable) lent

  stamp_is : stamp_of mw mb ≡ (place_at s w b i).stored.session.stamp
  unfolding place_in session_of
  stamp_is = ap (λ (p : Place). p.stored.session.stamp) lent

  marks_is : marks_of mw mb ≡ (place_at s w b i).stored.session.marks
  unfolding place_in session_of
  marks_is = ap (λ (p : Place). p.stored.session.marks) lent

  -- a part of the place's bytes is a part of the area's
  pub part_of : (k n : ℕ) → k + n ≤ length mb → take n (drop k mb) ≡ take n (drop (ba + k) b)
  part_of k n g =
      let l : k + n ≤ be - ba = omega (arith, g, length-take (be - ba) (drop ba b)) in
      within n k (be - ba) (drop ba b) l ∙ ap (take n) (drop-drop k ba b)

  text_at : (text : List ℕ) (k n : ℕ) → k + n ≤ 224 → take n (drop k mb) ≡ text → TextAt b text (ba + k) n
  text_at text k n g e = record {
    is = sym (part_of k n (omega (arith, at.bytes_part))) ∙ e;
    inside = omega (arith, at.at.bytes_to, at.at.bytes_from, at.bytes_end);
  }

  pub stamp_at : (n : ℕ) → n ≤ 32 → take n (drop 128 mb) ≡ stamp_of mw mb → TextAt b (place_at s w b i).stored.session.stamp (ba + 128) n
  stamp_at n g e = text_at (place_at s w b i).stored.session.stamp 128 n (omega arith) (e ∙ stamp_is)

  pub marks_at : (n : ℕ) → n ≤ 64 → take n (drop 160 mb) ≡ marks_of mw mb → TextAt b (place_at s w b i).stored.session.marks (ba + 160) n
  marks_at n g e = text_at (place_at s w b i).stored.session.marks 160 n (omega arith) (e ∙ marks_is)
