-- What was read in some version stands for the same frame in the latest. Assumes nothing.
use mathlib.Core.Path.{◌≡◌, refl, sym, ap, ◌∙◌}
use mathlib.Core.Bool.{Bool, true, ◌&&◌, false≢true}
use mathlib.Core.List.{List, [], ◌∷◌}
use Prim.Native.Nat.{ℕ, zero, suc}
use lib.ListN.{drop}
use Rattle.base_laws.proofs.Lists.{both}
use Rattle.model_text.specs.Version.{latest}
use Rattle.model_frame.specs.Frame.{Change}
use Rattle.model_frame.specs.Parse.{Res, ok, bad, Parser, and_then, ◌>>=◌, pure, item_then, many, collect}
use Rattle.model_frame.specs.Reading.{read_change, read_app_record}
use Rattle.model_frame.specs.Frame as the_frame
use Rattle.model_frame.specs.Sizes.{sizes}
use Rattle.model_frame.proofs.Wider.{Wider, change_wider}
use Rattle.frame_op.specs.declared.Run.{Run}
use Rattle.frame_op.specs.Answers.{run_of}
use Rattle.frame_fields.specs.declared.Batch.{Batch}
use Rattle.frame_fields.specs.Answers.{part_of}
use Rattle.frame_writer.specs.Encoding.{is_ok, run_reads}
use Rattle.frame.specs.declared.Frame.{Frame}
use Rattle.frame.specs.Answers.{frame_of, readable, Sized}

-- the items of a run that can be read whole are those of a wider reader
module _ {A : Type 0} {p q : Parser A} (w : Wider p q) where
  items_wider : (n : ℕ) (s : List ℕ) → is_ok (many n p s) ≡ true → collect n p s ≡ collect n q s
  unfolding many collect
  items_wider zero s e = refl
  items_wider (suc n) s e = go (p s) refl e (items_wider n)
    where
      rest : (s₁ : List ℕ) (a : A) → is_ok (and_then (many n p s₁) (λ xs. pure (a ∷ xs))) ≡ true → is_ok (many n p s₁) ≡ true
      rest s₁ a e = last (many n p s₁) e
        where
          last : (r : Res (List A)) → is_ok (and_then r (λ xs. pure (a ∷ xs))) ≡ true → is_ok r ≡ true
          last (ok xs t) e = refl
          last (bad x) e = e

      go : (r : Res A) → p s ≡ r → is_ok (and_then r (λ x. many n p >>= (λ xs. pure (x ∷ xs)))) ≡ true → ((s₁ : List ℕ) → is_ok (many n p s₁) ≡ true → collect n p s₁ ≡ collect n q s₁) → item_then (p s) (collect n p) ≡ item_then (q s) (collect n q)
      go (ok a s₁) c e ih = rw (c, w.reads s c) (ap (λ (l : List A). a ∷ l) (ih s₁ (rest s₁ a e)))
      go (bad x) c e ih = absurd (false≢true e)

module _ (version : ℕ) (b : List ℕ) where
  pub changes_latest : (r : Run) → run_reads (read_change version) b r ≡ true → run_of (read_change version) b r ≡ run_of (read_change latest) b r
  changes_latest r e = items_wider (change_wider version) r.count (drop r.at b) e

  changes_in : (x : Batch) → readable version b (Frame.Batch x) ≡ true → run_of (read_change version) b x.ops ≡ run_of (read_change latest) b x.ops
  changes_in x e = changes_latest x.ops (both (run_reads (read_change version) b x.ops) (run_reads read_app_record b x.app_records) e).0

  pub frame_latest : (f : Frame) → readable version b f ≡ true → frame_of version b f ≡ frame_of latest b f
  frame_latest (Frame.Hello v e node ks) t = refl
  frame_latest (Frame.Welcome e i) t = refl
  frame_latest (Frame.Bind h e lag k) t = refl
  frame_latest (Frame.Bound h m) t = refl
  frame_latest (Frame.Batch x) t = ap (λ (cs : List Change). the_frame.batch x.handle x.epoch.0 x.commit_no.0 (part_of x.part) cs (run_of read_app_record b x.app_records)) (changes_in x t)
  frame_latest (Frame.Ack h n) t = refl
  frame_latest (Frame.Nack h r) t = refl
  frame_latest (Frame.Checked h e i) t = refl

  pub sized_latest : (f : Frame) → readable version b f ≡ true → Sized version b f → Sized latest b f
  sized_latest (Frame.Hello v e node ks) t z = tt
  sized_latest (Frame.Welcome e i) t z = tt
  sized_latest (Frame.Bind h e lag k) t z = tt
  sized_latest (Frame.Bound h m) t z = tt
  sized_latest (Frame.Batch x) t z = z ∙ ap sizes (changes_in x t)
  sized_latest (Frame.Ack h n) t z = tt
  sized_latest (Frame.Nack h r) t z = tt
  sized_latest (Frame.Checked h e i) t z = tt
