-- From one place's words to the store's. Assumes nothing.
use mathlib.Core.Path.{◌≡◌, sym, ap, subst, ◌∙◌}
use mathlib.Core.Bool.{true}
use mathlib.Core.List.{List}
use Prim.Native.Nat.{ℕ, ◌-◌, ◌<◌}
use lib.ListN.{get_or}
use borrow.Rule.Slice.PartMut.{mid_of}
use Rattle.model_frame.specs.Frame.{Change}
use Rattle.model_session.specs.Session.{fits}
use Rattle.model_standby.specs.Store.{Place}
use Rattle.store_place.specs.Place.{next_out_of}
use Rattle.store_areas.specs.declared.Shape.{Shape}
use Rattle.store_areas.specs.Areas.{SpotIs, Rules, place_at}
use Rattle.store_areas.proofs.Lifting.{spot_place}
use Rattle.standby_apply.proofs.Loop.{next_out_lem}

-- the place's own words ask for the number that its session asks for
pub asks : (s : Shape) (i wa we ba be : ℕ) (w b : List ℕ) → SpotIs s i wa we ba be → Rules s w b → i < get_or w 0 0 → (cs : List Change) → fits (place_at s w b i).stored.session.next_out cs ≡ true
    → fits (next_out_of (mid_of wa (we - wa) w)) cs ≡ true
asks s i wa we ba be w b at r h cs =
    let mw : List ℕ = mid_of wa (we - wa) w in
    let mb : List ℕ = mid_of ba (be - ba) b in
    subst (λ (n : ℕ). fits n cs ≡ true) (sym (sym (next_out_lem s.bytes s.messages mw mb) ∙ ap (λ (x : Place). x.stored.session.next_out) (spot_place s i wa we ba be at w b r h)))
