-- What a list of calls comes to, by the promises of the calls alone. Assumes nothing.
use mathlib.Core.Path.{◌≡◌, refl, sym, ap, subst, ◌∙◌}
use mathlib.Core.List.{List}
use Prim.Native.Nat.{ℕ, ◌≤◌}
use Rattle.std.specs.Prelude.{Result, Ok, Err}
use Rattle.base_refusals.specs.declared.Refusal.{Refusal}
use Rattle.model_lease.specs.Lease.{Lease, made}
use Rattle.model_lease.specs.Lease as model
use Rattle.model_lease.specs.History.{LeaseCall, run, attempts, Told}
use Rattle.model_lease.proofs.History.{history}
use Rattle.model_lease.proofs.Rising.{end_never_falls}
use Rattle.active_lease.specs.declared.Held.{Held}
use Rattle.active_lease.specs.declared.Asked.{Asked}
use Rattle.active_lease.specs.Held.{lease_of, asked_of, tried_of, after_asked, after_tried, LeaseRuns, ended, asked, tried}

-- the lease to go on with is that of the answer
asked_goes_on : (h : Held) (r : Result Asked Refusal) → lease_of (after_asked h r) ≡ (asked_of h r).lease
asked_goes_on h (Ok a) = refl
asked_goes_on h (Err e) = refl

tried_goes_on : (h : Held) (r : Result Held Refusal) → lease_of (after_tried h r) ≡ (tried_of h r).lease
tried_goes_on h (Ok after) = refl
tried_goes_on h (Err e) = refl

-- the code's lease is the definition's
pub runs_so : {h end : Held} {cs : List LeaseCall} → LeaseRuns h cs end → lease_of end ≡ run (lease_of h) cs
runs_so ended = refl
runs_so (asked {h = h} {cs = cs} r p more) = runs_so more ∙ ap (λ (l : Lease). run l cs) (asked_goes_on h r ∙ ap (λ (a : model.Asked). a.lease) p)
runs_so (tried {h = h} {cs = cs} r p more) = runs_so more ∙ ap (λ (l : Lease). run l cs) (tried_goes_on h r ∙ ap (λ (a : model.Tried). a.lease) p)

-- after any list of questions and attempts from the making on: when it is lost, and its end
pub held_history : (d s : ℕ) {first end : Held} {cs : List LeaseCall} → lease_of first ≡ made d s → LeaseRuns first cs end → Told d s (attempts s cs) (lease_of end)
held_history d s {cs = cs} new r =
    subst (Told d s (attempts s cs)) (sym (runs_so r ∙ ap (λ (l : Lease). run l cs) new)) (history d s cs)

-- and the end never falls
pub held_end_never_falls : (d s : ℕ) {first mid end : Held} {cs more : List LeaseCall} → lease_of first ≡ made d s → LeaseRuns first cs mid → LeaseRuns mid more end → mid.until ≤ end.until
held_end_never_falls d s {mid = mid} {end = end} {cs = cs} {more = more} new r q =
    let m : lease_of mid ≡ run (made d s) cs = runs_so r ∙ ap (λ (l : Lease). run l cs) new in
    let e : lease_of end ≡ run (run (made d s) cs) more = runs_so q ∙ ap (λ (l : Lease). run l more) m in
    subst (λ (l : Lease). mid.until ≤ l.until) (sym e) (subst (λ (l : Lease). l.until ≤ (run (run (made d s) cs) more).until) (sym m) (end_never_falls d s cs more))
