-- A store keeps its areas through several changes. Assumes nothing.
use mathlib.Core.Path.{refl, ◌∙◌}
use Rattle.store_areas.specs.declared.store.Store.{Store}
use Rattle.store_areas.specs.Same.{SameAreas}

pub same_self : (s : Store) → SameAreas s s
same_self s = record { shape = refl; words = refl; bytes = refl }

pub same_then : (s t u : Store) → SameAreas s t → SameAreas t u → SameAreas s u
same_then s t u p q = record { shape = q.shape ∙ p.shape; words = q.words ∙ p.words; bytes = q.bytes ∙ p.bytes }
