-- One handle for a session (document 02, U4): when the taken places of a row are apart, and which of them an accepted Bind frees.
-- Assumes nothing.
use Rattle.std.specs.Prelude.{ℕ, [], ◌∷◌, Bool, true, false, cond, not, ◌&&◌, ◌||◌, eqb}
use Rattle.std.proofs.Math.Option.{none, some}
use Rattle.model_standby.specs.Row.{Row, is_some, find, has_room}
use Rattle.model_standby.specs.State.{Bound}

-- a taken place of the row names the session place p
abbrev pub names_place : ℕ → Row Bound → Bool
names_place p [] = false
names_place p (none ∷ t) = names_place p t
names_place p (some e ∷ t) = eqb p e.1.place || names_place p t

-- the rule of a row: no two taken places have one handle, and no two name one session place
abbrev pub apart : Row Bound → Bool
apart [] = true
apart (none ∷ t) = apart t
apart (some e ∷ t) = not (is_some (find e.0 t) || names_place e.1.place t) && apart t

-- each place that another handle than h has and that names the session place p becomes free; h's own stays
abbrev pub without_others : ℕ → ℕ → Row Bound → Row Bound
without_others h p [] = []
without_others h p (none ∷ t) = none ∷ without_others h p t
without_others h p (some e ∷ t) = cond (not (eqb h e.0) && eqb p e.1.place) none (some e) ∷ without_others h p t

-- h has a place or finds a free one, once no other handle has the session place p
abbrev pub room_at : ℕ → Row Bound → ℕ → Bool
room_at h t p = has_room h (without_others h p t)
