-- An imported session is like any other: from the promise of `store_import::import`. Assumes nothing.
use mathlib.Core.Path.{◌≡◌, refl, sym, ap, subst, ◌∙◌}
use mathlib.Core.Bool.{Bool, true, false, cond, ◌||◌}
use mathlib.Core.List.{List, [], ◌∷◌, ◌++◌}
use mathlib.Core.Option.{Option, none, some, map}
use Prim.Native.Nat.{ℕ, ◌+◌, ◌<◌}
use native.Mathlib.Omega.{arith}
use lib.ListN.{length, get_or, set, get_elem?}
use lib.Dec.{T, leb}
use borrow.Author.Tests.{leb-false}
use Rattle.model_text.specs.Printable.{is_key}
use Rattle.model_frame.specs.Frame.{Key}
use Rattle.model_session.specs.Session.{Session, Msg, Holdable, is_bytes}
use Rattle.model_session.specs.Whole.{batch_limit}
use Rattle.model_standby.specs.Store.{Place, is_stored, session_at}
use Rattle.model_fix.specs.Import as import
use Rattle.model_fix.specs.Import.{fault, taken, judge_file}
use Rattle.model_fix.proofs.Building.{file_holdable}
use Rattle.fix_file.specs.Judging.{messages_in}
use Rattle.store_areas.specs.declared.Shape.{Shape}
use Rattle.store_areas.specs.Areas.{Rules, allowed, places_of}
use Rattle.store_areas.proofs.Ruling.{rules_of, rules_true}
use Rattle.store_areas.proofs.Lifting.{places_length, rules_kept_by}
use Rattle.store_sessions.proofs.Opening.{raised}
use Rattle.store_import.specs.Importing.{fault_of, refuses, imported_place, Taken}
use Rattle.active.specs.declared.Line.{Line}
use Rattle.active.specs.Whole.{branch_limit, limit_of, stored_at}
use Rattle.active.proofs.Giving.{whole_given}
use Rattle.theorem_whole_copy.proofs.Demand3.{demand_3}
use Rattle.theorem_whole_copy.proofs.Lines.{on_line}
use Rattle.theorem_import.specs.Imported.{session_of, LikeAny, LikeAnyOn}

-- ---- where nothing is refused

clash : {x : ℕ × ℕ} → ◌≡◌ {A = Option (ℕ × ℕ)} (some x) none → ⊥
clash e = let z : ◌≡◌ {A = ℕ} 0 1 = cc in omega arith

record Free (rules full : Bool) (o : Option (ℕ × ℕ)) : Type 0 where
  keeps : rules ≡ true
  room : full ≡ false
  file : o ≡ none

free : (a k f : Bool) (o : Option (ℕ × ℕ)) → cond a (cond k (cond f (some (20, 0)) o) (some (5, 0))) (some (25, 0)) ≡ none → Free a f o
free true true false o e = record { keeps = refl; room = refl; file = e }
free true true true o e = absurd (clash e)
free true false f o e = absurd (clash e)
free false k f o e = absurd (clash e)

no_fault : (j : import.Judged) → fault_of j ≡ none → j ≡ taken (messages_in j)
no_fault (fault n at) e = absurd (clash e)
no_fault (taken ms) e = refl

or_right : (a b : Bool) → (a || b) ≡ false → b ≡ false
or_right true b e = absurd (let z : ◌≡◌ {A = ℕ} 0 1 = cc in omega arith)
or_right false b e = e

at_last : (p : Place) (ps : List Place) → get_elem? (ps ++ (p ∷ [])) (length ps) ≡ some p
at_last p [] = refl
at_last p (x ∷ ps) = at_last p ps

-- ---- the theorem

module _ (s : Shape) (k : Key) (file w w' b b' : List ℕ) (i : ℕ) (bytes : T (is_bytes file)) (t : Taken s k file w w' b b' i) where
  opens : Free (allowed s w b) (is_stored k (places_of s w b) || leb s.places (get_or w 0 0)) (fault_of (judge_file file))
  unfolding refuses
  opens = free (allowed s w b) (is_key k.begin k.sender k.target k.suffix) (is_stored k (places_of s w b) || leb s.places (get_or w 0 0)) (fault_of (judge_file file)) t.good

  room : get_or w 0 0 < s.places
  room = leb-false s.places (get_or w 0 0) (or_right (is_stored k (places_of s w b)) (leb s.places (get_or w 0 0)) opens.room)

  held : Holdable s.bytes s.messages (session_of s file)
  held = file_holdable s.bytes s.messages file (messages_in (judge_file file)) bytes (no_fault (judge_file file) opens.file)

  rules : Rules s w' b'
  rules = rules_kept_by s (get_or w 0 0) (set w 0 (get_or w 0 0 + 1)) w' b b' t.words t.bytes (raised s w b (rules_of s w b opens.keeps) room)

  there : session_at (places_of s w' b') i ≡ some (session_of s file)
  there =
      (λ j. session_at (t.places j) ((t.place ∙ sym (places_length s w b)) j))
      ∙ ap (map (λ (p : Place). p.stored.session)) (at_last (imported_place s k file) (places_of s w b))

  stored : stored_at s w' b' i ≡ some (session_of s file)
  unfolding stored_at
  stored = ap (λ (x : Bool). cond x (session_at (places_of s w' b') i) none) (rules_true s w' b' rules) ∙ there

  pub like_any : LikeAny s file w' b' i
  like_any = record {
    held = held;
    next = held.out_high;
    rules = rules;
    stored = stored;
    frames = λ limit version h e last from u fs hw hb r g. whole_given limit s w' b' (session_of s file) h e last version i from u fs hw hb stored r g;
    copied =
        λ set same limit B own h bound x start cs z d.
        demand_3 set limit (session_of s file) B own h bound x (start (subst (λ (q : Shape). Holdable q.bytes q.messages (session_of s file)) (sym same) held)) cs z d;
  }

  like_any_on : (line : Line) → LikeAnyOn line (limit_of line) s file w' b' i
  like_any_on line = record {
    own_frames =
        λ version h e last from u fs hw hb begins calls.
        (on_line line).own_frames version s w' b' i h e last (session_of s file) from u fs (record { words_u64 = hw; bytes_u8 = hb; stored = stored; begins = begins }) calls;
    copied = λ set same B own h bound x start cs z d. like_any.copied set same (limit_of line) B own h bound x start cs z d;
  }

  pub on_head_office : LikeAnyOn Line.HeadOffice batch_limit s file w' b' i
  on_head_office = like_any_on Line.HeadOffice

  pub on_branch_line : LikeAnyOn Line.Branch branch_limit s file w' b' i
  on_branch_line = like_any_on Line.Branch
