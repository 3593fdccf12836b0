-- What a list of questions and attempts comes to, from the making of the lease on.
-- Assumes nothing.
use mathlib.Core.Path.{◌≡◌, refl, sym, ap, ◌∙◌}
use mathlib.Core.Bool.{Bool, true, false, cond, true≢false}
use mathlib.Core.List.{List, [], ◌∷◌, ◌++◌}
use Prim.Native.Nat.{ℕ}
use native.Mathlib.Omega.{arith}
use lib.Dec.{ltb}
use Rattle.model_lease.specs.Lease.{Lease, Outcome, renewed, failed, deposed, Attempt, end_from, made, is_due, at, end_after, loses, after, Asked, Tried, renewal, is_early, attempt}
use Rattle.model_lease.specs.History.{LeaseCall, question, attempted, step, run, time_after, last_time, attempts, start_after, last_start, Loss, FirstLoss, Told}

pub by_cases : (P : Type 0) (b : Bool) → (b ≡ true → P) → (b ≡ false → P) → P
by_cases P true t f = t refl
by_cases P false t f = f refl

-- a lease that holds: its end is that of a start; and one that is lost
abbrev pub holding : ℕ → ℕ → ℕ → Lease
holding d s last = record { duration = d; until = end_from s d; last = last; lost = false }

abbrev pub gone : ℕ → ℕ → ℕ → Lease
gone d until last = record { duration = d; until = until; last = last; lost = true }

-- ---- one attempt

holds : (d s last start now : ℕ) (o : Outcome) → loses (end_from s d) now o ≡ false → after (holding d s last) (record { start = start; now = now; outcome = o }) ≡ holding d (start_after s start o) now
holds d s last start now renewed e = refl
holds d s last start now failed e = ap (λ (b : Bool). record { duration = d; until = end_from s d; last = now; lost = b }) e
holds d s last start now deposed e = absurd (true≢false e)

loses_it : (d s last start now : ℕ) (o : Outcome) → loses (end_from s d) now o ≡ true → after (holding d s last) (record { start = start; now = now; outcome = o }) ≡ gone d (end_from s d) now
loses_it d s last start now renewed e = absurd (true≢false (sym e))
loses_it d s last start now failed e = ap (λ (b : Bool). record { duration = d; until = end_from s d; last = now; lost = b }) e
loses_it d s last start now deposed e = refl

-- ---- one call: refused with 31 it changes nothing

pub asked_early : (l : Lease) (now : ℕ) → ltb now l.last ≡ true → renewal l now ≡ record { refusal = 31; due = false; lease = l }
asked_early l now e = rw e

pub asked_taken : (l : Lease) (now : ℕ) → ltb now l.last ≡ false → renewal l now ≡ record { refusal = 0; due = is_due l now; lease = at now l }
asked_taken l now e = rw e

pub tried_early : (l : Lease) (a : Attempt) → is_early l.last a ≡ true → attempt l a ≡ record { refusal = 31; lease = l }
tried_early l a e = rw e

pub tried_taken : (l : Lease) (a : Attempt) → is_early l.last a ≡ false → attempt l a ≡ record { refusal = 0; lease = after l a }
tried_taken l a e = rw e

-- an attempt that is taken, on a lost lease and on one that holds
chosen : (b : Bool) (l m : Lease) → b ≡ true → cond b l m ≡ l
chosen b l m e = rw e

other : (b : Bool) (l m : Lease) → b ≡ false → cond b l m ≡ m
other b l m e = rw e

pub after_lost : (l : Lease) (a : Attempt) → l.lost ≡ true → after l a ≡ at a.now l
after_lost l a e =
    chosen l.lost (at a.now l)
    (record { duration = l.duration; until = end_after l a.start a.outcome; last = a.now; lost = loses l.until a.now a.outcome })
    e

pub after_held : (l : Lease) (a : Attempt) → l.lost ≡ false
    → after l a ≡ record { duration = l.duration; until = end_after l a.start a.outcome; last = a.now; lost = loses l.until a.now a.outcome }
after_held l a e =
    other l.lost (at a.now l)
    (record { duration = l.duration; until = end_after l a.start a.outcome; last = a.now; lost = loses l.until a.now a.outcome })
    e

pub question_early : (l : Lease) (now : ℕ) → ltb now l.last ≡ true → step l (question now) ≡ l
question_early l now e = ap (λ (r : Asked). r.lease) (asked_early l now e)

pub question_taken : (l : Lease) (now : ℕ) → ltb now l.last ≡ false → step l (question now) ≡ at now l
question_taken l now e = ap (λ (r : Asked). r.lease) (asked_taken l now e)

pub attempt_early : (l : Lease) (a : Attempt) → is_early l.last a ≡ true → step l (attempted a) ≡ l
attempt_early l a e = ap (λ (r : Tried). r.lease) (tried_early l a e)

pub attempt_taken : (l : Lease) (a : Attempt) → is_early l.last a ≡ false → step l (attempted a) ≡ after l a
attempt_taken l a e = ap (λ (r : Tried). r.lease) (tried_taken l a e)

-- ---- a lost lease: nothing but the last time changes any more

gone_step : (d until last : ℕ) (c : LeaseCall) → step (gone d until last) c ≡ gone d until (time_after last c)
gone_step d until last (question now) =
    by_cases (step (gone d until last) (question now) ≡ gone d until (time_after last (question now))) (ltb now last)
    (λ e. question_early (gone d until last) now e ∙ rw e)
    (λ e. question_taken (gone d until last) now e ∙ rw e)
gone_step d until last (attempted a) =
    by_cases (step (gone d until last) (attempted a) ≡ gone d until (time_after last (attempted a))) (is_early last a)
    (λ e. attempt_early (gone d until last) a e ∙ rw e)
    (λ e. attempt_taken (gone d until last) a e ∙ rw e)

gone_stays : (d until last : ℕ) (cs : List LeaseCall) → run (gone d until last) cs ≡ gone d until (last_time last cs)
gone_stays d until last [] = refl
gone_stays d until last (c ∷ cs) = ap (λ (l : Lease). run l cs) (gone_step d until last c) ∙ gone_stays d until (time_after last c) cs

-- from any lease that is lost
pub lost_for_good : (l : Lease) (cs : List LeaseCall) → l.lost ≡ true → run l cs ≡ gone l.duration l.until (last_time l.last cs)
lost_for_good l cs e =
    let as-gone : l ≡ gone l.duration l.until l.last = ap (λ (b : Bool). record { duration = l.duration; until = l.until; last = l.last; lost = b }) e in
    ap (λ (x : Lease). run x cs) as-gone ∙ gone_stays l.duration l.until l.last cs

-- ---- losses in a list of attempts

none_empty : (d s : ℕ) → Loss d s [] → ⊥
none_empty d s x = go x.before x.split
  where
    go : (before : List Attempt) → [] ≡ before ++ (x.by ∷ x.later) → ⊥
    go [] e = let z : ◌≡◌ {A = ℕ} 0 1 = cc in omega arith
    go (b ∷ bs) e = let z : ◌≡◌ {A = ℕ} 0 1 = cc in omega arith

-- an attempt loses the lease
module _ (d s : ℕ) (a : Attempt) (more : List Attempt) (lost : loses (end_from s d) a.now a.outcome ≡ true) where
  here : FirstLoss d s (a ∷ more)
  here = record { loss = record { before = []; by = a; later = more; split = refl; lost = lost }; none_before = none_empty d s }

  no_other : (before : List Attempt) (by : Attempt) (later : List Attempt) → a ∷ more ≡ before ++ (by ∷ later) → (Loss d s before → ⊥) → last_start s before ≡ s
  no_other [] by later e none = refl
  no_other (b ∷ bs) by later e none =
      let p : a ≡ b = cc in
      absurd (none (record { before = []; by = b; later = bs; split = refl; lost = rw p at lost }))

  told_lost : (last : ℕ) → Told d s (a ∷ more) (gone d (end_from s d) last)
  told_lost last = record {
    lost_by = λ _. here;
    lost_if = λ _. refl;
    end_held = λ e. absurd (true≢false e);
    end_lost = λ f. ap (λ (n : ℕ). end_from n d) (sym (no_other f.loss.before f.loss.by f.loss.later f.loss.split f.none_before));
  }

-- it doesn't
module _ (d s : ℕ) (a : Attempt) (kept : loses (end_from s d) a.now a.outcome ≡ false) where
  abbrev next : ℕ
  next = start_after s a.start a.outcome

  push : (all : List Attempt) → Loss d next all → Loss d s (a ∷ all)
  push all x = record { before = a ∷ x.before; by = x.by; later = x.later; split = ap (λ (l : List Attempt). a ∷ l) x.split; lost = x.lost }

  pop_at : (all before : List Attempt) (by : Attempt) (later : List Attempt) → a ∷ all ≡ before ++ (by ∷ later) → loses (end_from (last_start s before) d) by.now by.outcome ≡ true → Loss d next all
  pop_at all [] by later e t =
      let p : by ≡ a = cc in
      absurd (true≢false (sym (rw p at t) ∙ kept))
  pop_at all (b ∷ bs) by later e t =
      let p : b ≡ a = cc in
      record { before = bs; by = by; later = later; split = cc; lost = rw p at t }

  pop : (all : List Attempt) → Loss d s (a ∷ all) → Loss d next all
  pop all x = pop_at all x.before x.by x.later x.split x.lost

  module _ (all : List Attempt) (l : Lease) (t : Told d next all l) where
    ended : (before : List Attempt) (by : Attempt) (later : List Attempt) → a ∷ all ≡ before ++ (by ∷ later) → loses (end_from (last_start s before) d) by.now by.outcome ≡ true
        → (Loss d s before → ⊥) → l.until ≡ end_from (last_start s before) d
    ended [] by later e lost none =
        let p : by ≡ a = cc in
        absurd (true≢false (sym (rw p at lost) ∙ kept))
    ended (b ∷ bs) by later e lost none =
        let p : b ≡ a = cc in
        rw p (t.end_lost (record { loss = record { before = bs; by = by; later = later; split = cc; lost = rw p at lost }; none_before = λ y. none (rw p (push bs y)) }))

    told_held : Told d s (a ∷ all) l
    unfolding push
    told_held = record {
      lost_by = λ e. let f = t.lost_by e in record { loss = push all f.loss; none_before = λ y. f.none_before (pop f.loss.before y) };
      lost_if = λ x. t.lost_if (pop all x);
      end_held = λ e. t.end_held e;
      end_lost = λ f. ended f.loss.before f.loss.by f.loss.later f.loss.split f.loss.lost f.none_before;
    }

-- ---- a list of calls

abbrev Tells : ℕ → ℕ → ℕ → List LeaseCall → Type 0
Tells d s last cs = Told d s (attempts last cs) (run (holding d s last) cs)

told_none : (d s last : ℕ) → Told d s [] (holding d s last)
told_none d s last = record {
  lost_by = λ e. absurd (true≢false (sym e));
  lost_if = λ x. absurd (none_empty d s x);
  end_held = λ _. refl;
  end_lost = λ f. absurd (none_empty d s f.loss);
}

told_question : (d s last now : ℕ) (cs : List LeaseCall) → ((t : ℕ) → Tells d s t cs) → Tells d s last (question now ∷ cs)
told_question d s last now cs more =
    by_cases (Tells d s last (question now ∷ cs)) (ltb now last)
    (λ e. rw (e, question_early (holding d s last) now e) (more last))
    (λ e. rw (e, question_taken (holding d s last) now e) (more now))

told_taken : (d s last : ℕ) (a : Attempt) (cs : List LeaseCall) → ((s' : ℕ) → Tells d s' a.now cs) → Told d s (a ∷ attempts a.now cs) (run (after (holding d s last) a) cs)
told_taken d s last a cs more =
    by_cases (Told d s (a ∷ attempts a.now cs) (run (after (holding d s last) a) cs)) (loses (end_from s d) a.now a.outcome)
    (λ t. rw (loses_it d s last a.start a.now a.outcome t, gone_stays) (told_lost d s a (attempts a.now cs) t (last_time a.now cs)))
    (λ f. rw (holds d s last a.start a.now a.outcome f) (told_held d s a f (attempts a.now cs) (run (holding d (start_after s a.start a.outcome) a.now) cs) (more (start_after s a.start a.outcome))))

told_attempted : (d s last : ℕ) (a : Attempt) (cs : List LeaseCall) → ((s' t : ℕ) → Tells d s' t cs) → Tells d s last (attempted a ∷ cs)
told_attempted d s last a cs more =
    by_cases (Tells d s last (attempted a ∷ cs)) (is_early last a)
    (λ e. rw (attempt_early (holding d s last) a e, e) (more s last))
    (λ e. rw (attempt_taken (holding d s last) a e, e) (told_taken d s last a cs (λ s'. more s' a.now)))

tells : (d s last : ℕ) (cs : List LeaseCall) → Tells d s last cs
tells d s last [] = told_none d s last
tells d s last (question now ∷ cs) = told_question d s last now cs (λ t. tells d s t cs)
tells d s last (attempted a ∷ cs) = told_attempted d s last a cs (λ s' t. tells d s' t cs)

-- after any list of questions and attempts from the making on
pub history : (d s : ℕ) (cs : List LeaseCall) → Told d s (attempts s cs) (run (made d s) cs)
history d s cs = tells d s s cs
