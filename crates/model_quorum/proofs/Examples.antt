-- Computed examples: each n and k at the border, 256 and 257 handles, deposing. Assumes nothing.
use mathlib.Core.Path.{◌≡◌, refl}
use mathlib.Core.Bool.{Bool, true, false, ◌&&◌}
use mathlib.Core.List.{List, [], ◌∷◌, ◌++◌}
use mathlib.Core.Option.{Option, none, some}
use Prim.Native.Nat.{ℕ, zero, suc, ◌+◌, ◌-◌}
use lib.Dec.{eqb, leb, ltb}
use Rattle.model_quorum.specs.History.{QuorumCall, bind, sent, ack, stale, is_quorum, handles, last_sent, acked_by, until_deposed, refusal_of, accepted}
use Rattle.model_quorum.specs.Counts.{kept, shown, step, at_least, largest_of}

is : Option ℕ → ℕ → Bool
is none x = false
is (some y) x = eqb y x

-- handle 7 is bound, 1 to 6 are sent, and of n members member m acknowledges m + 1: the latest first
sends : ℕ → List QuorumCall
sends zero = bind 7 ∷ []
sends (suc x) = sent 7 (suc x) ∷ sends x

acks : ℕ → List QuorumCall
acks zero = sends 6
acks (suc m) = ack m 7 (suc m) ∷ acks m

-- with a quorum of k the figure is n + 1 - k: at least k acknowledged it or a later one, fewer the next
border : ℕ → ℕ → Bool
border n k =
    is (shown (kept n k (acks n)) 7) (suc n - k)
    && (leb k (acked_by n 7 (suc n - k) (accepted n (acks n))) && ltb (acked_by n 7 (suc (suc n) - k) (accepted n (acks n))) k)

borders : ℕ → ℕ → Bool
borders n zero = true
borders n (suc k) = border n (suc k) && borders n k

each_border : (borders 1 1 && (borders 2 2 && (borders 3 3 && (borders 4 4 && borders 5 5)))) ≡ true
unfolding is sends acks border borders step refusal_of
each_border = refl

-- n and k
no_members : is_quorum 0 0 ≡ false
no_members = refl

six_members : is_quorum 6 1 ≡ false
six_members = refl

none_needed : is_quorum 5 0 ≡ false
none_needed = refl

more_needed : is_quorum 4 5 ≡ false
more_needed = refl

all_needed : is_quorum 5 5 ≡ true
all_needed = refl

-- an older Ack changes nothing, and the k-th is taken, not the least
older : is (shown (kept 2 1 (ack 0 7 2 ∷ ack 0 7 5 ∷ sends 6)) 7) 5 ≡ true
unfolding is sends step
older = refl

-- 256 handles are bound, a 257th isn't, one of them is bound again
bounds : ℕ → List QuorumCall
bounds zero = []
bounds (suc n) = bind n ∷ bounds n

-- what a call answers after others, by the history and by what is kept
answers : ℕ → List QuorumCall → QuorumCall → ℕ → Bool
answers n calls c r = eqb (refusal_of n (accepted n calls) c) r && eqb (step (kept n 1 calls) c).refusal r

handle_256 : answers 1 (bounds 255) (bind 255) 0 ≡ true
unfolding refusal_of bounds answers step
handle_256 = refl

handle_257 : answers 1 (bounds 256) (bind 256) 37 ≡ true
unfolding refusal_of bounds answers step
handle_257 = refl

handle_again : answers 1 (bounds 256) (bind 9) 0 ≡ true
unfolding refusal_of bounds answers step
handle_again = refl

-- 37 comes before 38; an Ack of 0 and one above the last sent; a number that doesn't follow
unknown_first : answers 2 (sends 6) (ack 2 7 0) 37 ≡ true
unfolding refusal_of sends answers step
unknown_first = refl

unbound_first : answers 2 (sends 6) (ack 1 8 0) 37 ≡ true
unfolding refusal_of sends answers step
unbound_first = refl

ack_zero : answers 2 (sends 6) (ack 1 7 0) 38 ≡ true
unfolding refusal_of sends answers step
ack_zero = refl

ack_above : answers 2 (sends 6) (ack 1 7 7) 38 ≡ true
unfolding refusal_of sends answers step
ack_above = refl

ack_last : answers 2 (sends 6) (ack 1 7 6) 0 ≡ true
unfolding refusal_of sends answers step
ack_last = refl

sent_unbound : answers 2 (sends 6) (sent 8 7) 37 ≡ true
unfolding refusal_of sends answers step
sent_unbound = refl

sent_again : answers 2 (sends 6) (sent 7 6) 38 ≡ true
unfolding refusal_of sends answers step
sent_again = refl

sent_skipping : answers 2 (sends 6) (sent 7 8) 38 ≡ true
unfolding refusal_of sends answers step
sent_skipping = refl

sent_next : answers 2 (sends 6) (sent 7 7) 0 ≡ true
unfolding refusal_of sends answers step
sent_next = refl

stale_unknown : answers 2 [] (stale 2) 37 ≡ true
unfolding refusal_of answers step
stale_unknown = refl

stale_known : answers 2 [] (stale 1) 0 ≡ true
unfolding refusal_of answers step
stale_known = refl

-- deposed: a binding keeps the figure and begins the numbers anew, Acks move nothing, a handle first bound then shows 0
after : List QuorumCall
after = ack 0 9 1 ∷ sent 9 1 ∷ bind 9 ∷ ack 2 7 1 ∷ ack 1 7 1 ∷ ack 0 7 1 ∷ sent 7 1 ∷ bind 7 ∷ stale 1 ∷ acks 3

deposed : (is (shown (kept 3 1 after) 7) 3 && (is (shown (kept 3 1 after) 9) 0 && eqb (last_sent 7 (accepted 3 after)) 1)) ≡ true
unfolding is sends acks after step refusal_of
deposed = refl

-- an unknown member deposes nobody, and a binding then begins anew
unmoved : is (shown (kept 3 1 (bind 7 ∷ stale 3 ∷ acks 3)) 7) 0 ≡ true
unfolding is sends acks step refusal_of
unmoved = refl

-- a binding forgets every Ack before it, and once deposed the history before counts
forgotten : acked_by 3 7 1 (accepted 3 (bind 7 ∷ acks 3)) ≡ 0
unfolding sends acks refusal_of
forgotten = refl

moment : acked_by 3 7 3 (until_deposed (accepted 3 after)) ≡ 1
unfolding sends acks after refusal_of
moment = refl
