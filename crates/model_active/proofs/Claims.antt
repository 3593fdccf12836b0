-- The claims of specs/Claims.antt. Assumes nothing.
use mathlib.Core.Path.{◌≡◌, refl, sym, ap, subst, ◌∙◌}
use mathlib.Core.Bool.{Bool, true, false, cond, not, ◌&&◌, ◌||◌, true≢false}
use mathlib.Core.List.{List, [], ◌∷◌, ◌++◌}
use mathlib.Core.Option.{Option, none, some}
use Prim.Native.Nat.{ℕ, zero, suc, min, ◌<◌, ◌≤◌}
use native.Mathlib.Omega.{arith}
use lib.ListN.{length}
use lib.Dec.{eqb, ltb}
use borrow.Author.Tests.{lt-ltb, ltb-true}
use Rattle.model_active.specs.CatchUp.{Entry, Book, Call, Answer, Result, new_book, refused, too_many, picked, says, done, wait, member, is, opened, on_entry, sessions, meeting, opens_of, is_open, pick, told_checked, named, met_now, does, step, fall_behind, all_fall_behind, caught_up, behind_unless_compared_open, next_to_catch_up, opening, closed, ended, all_compared, acknowledge}
use Rattle.model_active.specs.Passes.{All, SoundBook, distinct, turns}
use Rattle.model_active.specs.Claims.{Claims, FullExactly, FallsInOrder, TellsExactly, NeverWhileBehind, PassEnds, BecomesCaught, OpeningWaits}
use Rattle.model_active.proofs.Books as books
use Rattle.model_active.proofs.Picking.{open_never_picked, opens_met, told_so, so_told, answers_so}
use Rattle.model_active.proofs.Ending as ending
use Rattle.model_active.proofs.Places.{keeps_place, together_as_met, behind_already, again_last}

-- ---- 27

-- what a call does is never answered by a refusal
pub never_refused : (b : Book) (c : Call) (n : ℕ) → (does b c).answer ≡ refused n → ⊥
never_refused b (fall_behind s) n e = let z : ◌≡◌ {A = ℕ} 0 1 = cc in omega arith
never_refused b (all_fall_behind l) n e = let z : ◌≡◌ {A = ℕ} 0 1 = cc in omega arith
never_refused b (caught_up s i) n e = let z : ◌≡◌ {A = ℕ} 0 1 = cc in omega arith
never_refused b (behind_unless_compared_open i) n e = let z : ◌≡◌ {A = ℕ} 0 1 = cc in omega arith
never_refused b (next_to_catch_up l i) n e = let z : ◌≡◌ {A = ℕ} 0 1 = cc in omega arith
never_refused b (opening s) n e = go (is b.catching s) e
  where
    go : (t : Bool) → (cond {A = Result} t (record { book = b; answer = wait }) (record { book = met_now b (on_entry s opened b.met); answer = done })).answer ≡ refused n → ⊥
    go true q = let z : ◌≡◌ {A = ℕ} 0 1 = cc in omega arith
    go false q = let z : ◌≡◌ {A = ℕ} 0 1 = cc in omega arith
never_refused b (closed s) n e = let z : ◌≡◌ {A = ℕ} 0 1 = cc in omega arith
never_refused b (ended s i) n e = let z : ◌≡◌ {A = ℕ} 0 1 = cc in omega arith
never_refused b (all_compared l i) n e = let z : ◌≡◌ {A = ℕ} 0 1 = cc in omega arith
never_refused b (acknowledge i) n e = let z : ◌≡◌ {A = ℕ} 0 1 = cc in omega arith

full : (b : Book) (c : Call) → SoundBook b → FullExactly b c
full b c s = go (ltb 256 (length (distinct b c))) refl (books.full_exactly b c s)
  where
    now : Result
    now = does (met_now b (meeting (named c) b.met)) c

    go : (t : Bool) → ltb 256 (length (distinct b c)) ≡ t → step b c ≡ cond t (record { book = b; answer = too_many }) now → FullExactly b c
    go true e q = record {
      only = λ _. ltb-true 256 (length (distinct b c)) e;
      always = λ _. ap (λ (r : Result). r.answer) q;
      unchanged = λ _. ap (λ (r : Result). r.book) q;
    }
    go false e q = record {
      only = λ f. absurd (never_refused (met_now b (meeting (named c) b.met)) c 27 (sym (ap (λ (r : Result). r.answer) q) ∙ f));
      always = λ h. absurd (true≢false (sym (lt-ltb 256 (length (distinct b c)) h) ∙ e));
      unchanged = λ f. absurd (never_refused (met_now b (meeting (named c) b.met)) c 27 (sym (ap (λ (r : Result). r.answer) q) ∙ f));
    }

-- ---- Checked

says_true : (t : Bool) → says t ≡ says true → t ≡ true
says_true true e = refl
says_true false e = absurd (let z : ◌≡◌ {A = ℕ} 0 1 = cc in omega arith)

tells : (b : Book) (l : List ℕ) (i : ℕ) → SoundBook b → length (distinct b (all_compared l i)) ≤ 256 → TellsExactly b l i
tells b l i s few = record {
  only = λ e. told_so b l i (says_true (told_checked b l i) (sym (answers_so b l i s few) ∙ e));
  always = λ t. answers_so b l i s few ∙ ap says (so_told b l i t);
}

not_behind : NeverWhileBehind
unfolding step
not_behind b l i s e = go (ltb 256 (length (meeting l b.met)) || ltb 256 (length b.behind))
  where
    m : Book
    m = met_now b (meeting l b.met)

    go : (t : Bool) → (cond {A = Result} t (record { book = b; answer = too_many }) (record { book = m; answer = says (told_checked m l i) })).answer ≡ says true → ⊥
    go true q = let z : ◌≡◌ {A = ℕ} 0 1 = cc in omega arith
    go false q = true≢false (sym (says_true (told_checked m l i) q) ∙ ending.never_while_behind m l i s e)

-- ---- the one being caught up

same_pick : (a o : Option ℕ) → picked a ≡ picked o → a ≡ o
same_pick a o e = cc

caught : BecomesCaught
unfolding step
caught b l i o e = go (ltb 256 (length (meeting l b.met)) || ltb 256 (length b.behind)) e
  where
    m : Book
    m = met_now b (meeting l b.met)

    go : (t : Bool) → (cond {A = Result} t (record { book = b; answer = too_many }) (does m (next_to_catch_up l i))).answer ≡ picked o → (cond {A = Result} t (record { book = b; answer = too_many }) (does m (next_to_catch_up l i))).book.catching ≡ o
    go true q = absurd (let z : ◌≡◌ {A = ℕ} 0 1 = cc in omega arith)
    go false q = same_pick (pick m l i) o q

opened_now : (s : ℕ) (es : List Entry) → member s (sessions es) ≡ true → opens_of s (on_entry s opened es) ≡ min (suc (opens_of s es)) 18446744073709551615
opened_now s [] m = absurd (true≢false (sym m))
opened_now s (e ∷ es) m = go (eqb s e.session) refl m (opened_now s es)
  where
    go : (b : Bool) → eqb s e.session ≡ b → (b || member s (sessions es)) ≡ true → (member s (sessions es) ≡ true → opens_of s (on_entry s opened es) ≡ min (suc (opens_of s es)) 18446744073709551615)
        → opens_of s (cond b (opened e ∷ es) (e ∷ on_entry s opened es)) ≡ min (suc (cond (eqb s e.session) e.opens (opens_of s es))) 18446744073709551615
    go true q p f =
        ap (λ (x : Bool). cond x (min (suc e.opens) 18446744073709551615) (opens_of s es)) q
        ∙ sym (ap (λ (x : Bool). min (suc (cond x e.opens (opens_of s es))) 18446744073709551615) q)
    go false q p f =
        ap (λ (x : Bool). cond x e.opens (opens_of s (on_entry s opened es))) q ∙ f p
        ∙ sym (ap (λ (x : Bool). min (suc (cond x e.opens (opens_of s es))) 18446744073709551615) q)

waiting : (b : Book) (s : ℕ) → OpeningWaits b s
unfolding step
waiting b s = record { only = only (is b.catching s) full; counts_nothing = nothing (is b.catching s) full; counts = counts (is b.catching s) full }
  where
    es : List Entry
    es = meeting (s ∷ []) b.met

    now : Bool → Result
    now t = cond t (record { book = met_now b es; answer = wait }) (record { book = met_now b (on_entry s opened es); answer = done })

    full : Bool
    full = ltb 256 (length (now (is b.catching s)).book.met) || ltb 256 (length (now (is b.catching s)).book.behind)

    said : Bool → Bool → Result
    said t f = cond f (record { book = b; answer = too_many }) (now t)

    only : (t f : Bool) → (said t f).answer ≡ wait → t ≡ true
    only t true e = absurd (let z : ◌≡◌ {A = ℕ} 0 1 = cc in omega arith)
    only true false e = refl
    only false false e = absurd (let z : ◌≡◌ {A = ℕ} 0 1 = cc in omega arith)

    nothing : (t f : Bool) → (said t f).answer ≡ wait → (u : ℕ) → opens_of u (said t f).book.met ≡ opens_of u b.met
    nothing t true e u = refl
    nothing true false e u = opens_met u (s ∷ []) b.met
    nothing false false e u = absurd (let z : ◌≡◌ {A = ℕ} 0 1 = cc in omega arith)

    counts : (t f : Bool) → (said t f).answer ≡ done → (t ≡ false) × (opens_of s (said t f).book.met ≡ min (suc (opens_of s b.met)) 18446744073709551615)
    counts t true e = absurd (let z : ◌≡◌ {A = ℕ} 0 1 = cc in omega arith)
    counts true false e = absurd (let z : ◌≡◌ {A = ℕ} 0 1 = cc in omega arith)
    counts false false e = (refl, opened_now s es (books.named_met (s ∷ []) b.met).0 ∙ ap (λ (n : ℕ). min (suc n) 18446744073709551615) (opens_met s (s ∷ []) b.met))

-- ---- a pass

all_closed : (b : Book) (xs : List ℕ) → ((s : ℕ) → is_open s b.met ≡ false) → All (λ s. is_open s b.met ≡ false) xs
all_closed b [] f = let z : 0 ≤ 0 = omega arith in z
all_closed b (x ∷ xs) f = (f x, all_closed b xs f)

pass : (b : Book) (l : List ℕ) (i n : ℕ) → SoundBook b → length (distinct b (next_to_catch_up l i)) ≤ 256 → 256 ≤ n → PassEnds b l i n
pass b l i zero s few enough = absurd (let z : ⊥ = omega arith in z)
pass b l i (suc n) s few enough =
    let after = turns (suc n) l i b in
    let p = ending.pass_leaves l i b n s few in
    let none_left = ending.pass_ends l i b n s few enough in
    let sound = p.stays_ready.sound in
    let met = p.stays_ready.met in
    record {
      nobody = ap (λ (r : Result). r.answer) (ending.step_met after (next_to_catch_up l i) sound met) ∙ ap picked none_left;
      told = λ shut.
          ap (λ (r : Result). r.answer) (ending.step_met after (all_compared l i) sound met)
          ∙ ap says (ending.told_at_the_end after l i none_left (all_closed after (after.behind ++ l) (λ s. ap (ltb 0) (p.opens s) ∙ shut s)))
          ∙ ap (λ (o : Option ℕ). says (not (is o i))) p.acknowledged;
    }

pub claims : Claims
claims = record {
  always_sound = λ cs. books.run_sound new_book cs books.new_sound;
  keeps_place = keeps_place;
  full_exactly = full;
  falls_in_order = λ b s sd. record { behind_already = behind_already b s sd; again = λ i. again_last b s i sd };
  together_as_met = together_as_met;
  never_open = open_never_picked;
  becomes_caught = caught;
  opening_waits = waiting;
  tells_exactly = tells;
  never_while_behind = not_behind;
  pass_ends = pass;
}
