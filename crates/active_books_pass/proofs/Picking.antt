-- The calls that pick and tell, from their parts. Assumes nothing.
use mathlib.Core.Path.{◌≡◌, sym, ap, subst, ◌∙◌}
use mathlib.Core.Bool.{Bool}
use mathlib.Core.List.{List}
use mathlib.Core.Option as maybe
use Prim.Native.Nat.{ℕ, ◌<◌}
use lib.ListN.{length}
use Rattle.std.specs.Prelude.{Option, Some, None, find}
use Rattle.base_refusals.specs.Numbers.{number_of}
use Rattle.base_refusals.specs.declared.Refusal.{Refusal}
use Rattle.model_active.specs.CatchUp as m
use Rattle.model_active.specs.CatchUp.{Book, pick, told_checked, meeting, met_now, catching_now, picked, says, refused}
use Rattle.active_books_area.specs.Words.{option_of, book_of}
use Rattle.active_books_area.specs.Parts.{BooksRules, MakesBook}
use Rattle.active_books_listing.specs.Listings.{NoRoom}
use Rattle.active_books_next.specs.Firsts.{is_closed, is_wanting}
use Rattle.active_books.specs.Calls.{BooksCalled, picked_of}
use Rattle.active_books_pass.specs.Picking.{Picks}
use Rattle.active_books_area.proofs.Area.{after}
use Rattle.active_books_next.proofs.Nexts.{picks_behind, picks_later}
use Rattle.active_books.proofs.Calling.{calls_done, refuses_full, with_named}

picked_so : (w w' l : List ℕ) (i : ℕ) (r : Option ℕ) → pick (book_of w) l i ≡ option_of r → MakesBook w w' (catching_now (book_of w) (option_of r)) → Picks w w' l i (picked_of r)
picked_so w w' l i r e mk = record { makes = subst (λ (o : maybe.Option ℕ). MakesBook w w' (catching_now (book_of w) o)) (sym e) mk; answer = ap picked (sym e) }

pub picked_behind : (w w' l : List ℕ) (i s : ℕ) → Some s ≡ find (is_closed w) (book_of w).behind → MakesBook w w' (catching_now (book_of w) (option_of (Some s))) → Picks w w' l i (picked_of (Some s))
picked_behind w w' l i s f mk = picked_so w w' l i (Some s) (picks_behind w l i s f) mk

pub picked_listed : (w w' l : List ℕ) (i : ℕ) (r : Option ℕ) → None ≡ find (is_closed w) (book_of w).behind → r ≡ find (is_wanting w i) l → MakesBook w w' (catching_now (book_of w) (option_of r)) → Picks w w' l i (picked_of r)
picked_listed w w' l i r f e mk = picked_so w w' l i r (picks_later w l i r f e) mk

-- ---- the calls

pub nexts : (w w₁ w₂ l : List ℕ) (i : ℕ) (a : m.Answer) → BooksRules w → MakesBook w w₁ (met_now (book_of w) (meeting l (book_of w).met)) → Picks w₁ w₂ l i a → BooksCalled w w₂ (m.next_to_catch_up l i) a
nexts w w₁ w₂ l i a r made p =
    calls_done w w₂ (m.next_to_catch_up l i) a r (after w w₁ w₂ (with_named w (m.next_to_catch_up l i)) (λ x. catching_now x (pick x l i)) made p.makes) (p.answer ∙ ap (λ (x : Book). picked (pick x l i)) made.book)

pub tells : (w w₁ l : List ℕ) (i : ℕ) {b : Bool} → BooksRules w → MakesBook w w₁ (met_now (book_of w) (meeting l (book_of w).met)) → b ≡ told_checked (book_of w₁) l i → BooksCalled w w₁ (m.all_compared l i) (says b)
tells w w₁ l i {b} r made e = calls_done w w₁ (m.all_compared l i) (says b) r made (ap says (e ∙ ap (λ (x : Book). told_checked x l i) made.book))

-- no room for all listed: the words are as they were
pub no_room : (w w₁ l : List ℕ) (c : m.Call) (e : Refusal) → m.named c ≡ l → BooksRules w → NoRoom w l e → w₁ ≡ w → BooksCalled w w₁ c (refused (number_of e))
no_room w w₁ l c e n r full same =
    subst (λ (v : List ℕ). BooksCalled w v c (refused (number_of e))) (sym same) (refuses_full w c e r full.refusal (subst (λ (x : List ℕ). 256 < length (meeting x (book_of w).met)) (sym n) full.full))
