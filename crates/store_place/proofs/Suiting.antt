-- Whether a version takes the stamp of a place: by its length, or by the length that is stored. Assumes nothing.
use mathlib.Core.Path.{◌≡◌, refl, sym, ap, ◌∙◌}
use mathlib.Core.Bool.{Bool, true, false}
use mathlib.Core.Logic.{inl, inr}
use mathlib.Core.List.{List, [], ◌∷◌}
use Prim.Native.Nat.{ℕ, ◌≤◌, ◌<◌}
use native.Mathlib.Omega.{arith}
use borrow.Author.Tests.{le-leb}
use lib.Dec.{leb}
use lib.ListN.{length, get_or}
use Rattle.model_text.specs.Stamp.{is_stamp, takes_stamp, longest_short}
use Rattle.model_text.specs.Version.{latest}
use Rattle.model_session.specs.Session.{suits}
use Rattle.frame_stamp.proofs.Versions.{takes_all, takes_short, takes_no_long}
use Rattle.store_log.proofs.Walk.{cmp}
use Rattle.store_place.specs.Place.{field, stamp_of}
use Rattle.store_place.proofs.Texts.{or_none, field_most}

module _ (version : ℕ) (f : List ℕ) where
  -- a stamp, or none
  abbrev kept : List ℕ
  kept = or_none (is_stamp f) f

  taken_suits : (s : List ℕ) → is_stamp s ≡ takes_stamp version s → is_stamp s ≡ true → true ≡ suits version s
  taken_suits [] e k = refl
  taken_suits (x ∷ s) e k = sym k ∙ e

  -- where the version takes each such stamp
  pub all_suit : (is_stamp f ≡ takes_stamp version f) → true ≡ suits version kept
  all_suit e = go (is_stamp f) refl
    where
      go : (t : Bool) → is_stamp f ≡ t → true ≡ suits version (or_none t f)
      go true k = taken_suits f e k
      go false k = refl

  pub by_length : (version ≡ latest → ⊥) → leb (length kept) longest_short ≡ suits version kept
  by_length n = go (is_stamp f) refl
    where
      long : (s : List ℕ) → longest_short < length s → leb (length s) longest_short ≡ suits version s
      long [] h = absurd (omega arith)
      long (x ∷ s) h = takes_no_long version (x ∷ s) n h

      go : (t : Bool) → is_stamp f ≡ t → leb (length (or_none t f)) longest_short ≡ suits version (or_none t f)
      go false k = refl
      go true k = elim (cmp (length f) longest_short) [
        | inl h ↦ le-leb (length f) longest_short h ∙ taken_suits f (takes_short version f n h) k
        | inr h ↦ long f h
      ]

module _ (version : ℕ) (w b : List ℕ) where
  pub latest_suits : version ≡ latest → true ≡ suits version (stamp_of w b)
  unfolding stamp_of
  latest_suits e = all_suit version (field b 128 32 (get_or w 5 0)) (takes_all version (field b 128 32 (get_or w 5 0)) e)

  pub stored_short : (version ≡ latest → ⊥) → get_or w 5 0 ≤ longest_short → leb (get_or w 5 0) longest_short ≡ suits version (stamp_of w b)
  unfolding stamp_of
  stored_short n h = le-leb (get_or w 5 0) longest_short h ∙ all_suit version (field b 128 32 (get_or w 5 0)) (takes_short version (field b 128 32 (get_or w 5 0)) n (let l = field_most b 128 32 (get_or w 5 0) in omega arith))

  pub long_suits : (s : List ℕ) → s ≡ stamp_of w b → (version ≡ latest → ⊥) → leb (length s) longest_short ≡ suits version (stamp_of w b)
  unfolding stamp_of
  long_suits s e n = ap (λ (x : List ℕ). leb (length x) longest_short) e ∙ by_length version (field b 128 32 (get_or w 5 0)) n
