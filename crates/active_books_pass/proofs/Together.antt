-- The calls by which several fall behind, from their parts. Assumes nothing.
use mathlib.Core.Path.{◌≡◌, refl, sym, ap, ◌∙◌}
use mathlib.Core.Bool.{not, ◌&&◌}
use mathlib.Core.List.{List, [], ◌++◌}
use Prim.Native.Nat.{ℕ, ◌+◌, ◌<◌}
use native.Mathlib.Omega.{arith}
use lib.ListN.{length, get_or, length-append}
use Rattle.std.specs.Prelude.{map}
use Rattle.model_active.specs.CatchUp as m
use Rattle.model_active.specs.CatchUp.{Book, Entry, new, member, sessions, met_that, listed, open_only, falling, meeting, met_now, behind_now, refused, done}
use Rattle.active_books_area.specs.Words.{book_of}
use Rattle.active_books_area.specs.Parts.{BooksRules, MakesBook}
use Rattle.active_books_listing.specs.Listings.{AreNew}
use Rattle.active_books_falling.specs.Together.{fallen_listed}
use Rattle.active_books.specs.Calls.{BooksCalled}
use Rattle.active_books_area.proofs.Area.{length_behind, after}
use Rattle.active_books_listing.proofs.Listing.{sessions_new}
use Rattle.active_books_falling.proofs.Falling.{filter_append, falling_listed, falls_now}
use Rattle.active_books.proofs.Calling.{calls_done, refuses_27_behind}

pub too_many_behind : (w a : List ℕ) (i : ℕ) → BooksRules w → a ≡ falling (open_only i) (book_of w) → 256 < get_or w 1 0 + length a → BooksCalled w w (m.behind_unless_compared_open i) (refused 27)
too_many_behind w a i r f big =
    refuses_27_behind w (m.behind_unless_compared_open i) r (omega (arith, length-append (book_of w).behind (falling (open_only i) (book_of w)), length_behind w, ap length f))

pub open_fall : (w w' a : List ℕ) (i : ℕ) → BooksRules w → a ≡ falling (open_only i) (book_of w) → MakesBook w w' (behind_now (book_of w) ((book_of w).behind ++ a)) → BooksCalled w w' (m.behind_unless_compared_open i) done
open_fall w w' a i r f mk =
    calls_done w w' (m.behind_unless_compared_open i) done r
    (record { book = mk.book ∙ ap (λ (l : List ℕ). behind_now (book_of w) ((book_of w).behind ++ l)) f; ruled = mk.ruled; rest = mk.rest }) refl

-- who falls of those met and of the new ones is who falls of all
fallen_all : (w l fresh : List ℕ) → AreNew w l fresh → fallen_listed w l (sessions (book_of w).met) ++ fallen_listed w l fresh ≡ falling (listed l) (met_now (book_of w) (meeting l (book_of w).met))
fallen_all w l fresh g =
    sym (ap (met_that (falls_now w (listed l))) g.meets ∙ falling_listed w l ((book_of w).met ++ map new fresh) ∙ ap (fallen_listed w l) (sessions_new (book_of w).met fresh)
    ∙ filter_append (λ s. member s l && not (member s (book_of w).behind)) (sessions (book_of w).met) fresh)

pub all_too_many : (w l fresh a : List ℕ) → BooksRules w → AreNew w l fresh → a ≡ fallen_listed w l (sessions (book_of w).met) ++ fallen_listed w l fresh → 256 < get_or w 1 0 + length a → BooksCalled w w (m.all_fall_behind l) (refused 27)
all_too_many w l fresh a r g f big =
    let all = falling (listed l) (met_now (book_of w) (meeting l (book_of w).met)) in
    refuses_27_behind w (m.all_fall_behind l) r (omega (arith, length-append (book_of w).behind all, length_behind w, ap length (f ∙ fallen_all w l fresh g)))

-- meeting moves nobody behind
pub count_kept : (w w₁ : List ℕ) (es : List Entry) → MakesBook w w₁ (met_now (book_of w) es) → get_or w₁ 1 0 ≡ get_or w 1 0
count_kept w w₁ es mk = sym (length_behind w₁) ∙ ap (λ (b : Book). length b.behind) mk.book ∙ length_behind w

pub fallen_by : (w l e m f a₁ a₂ fresh : List ℕ) → e ≡ [] → m ≡ sessions (book_of w).met → f ≡ fresh → a₁ ≡ e ++ fallen_listed w l m → a₂ ≡ a₁ ++ fallen_listed w l f → a₂ ≡ fallen_listed w l (sessions (book_of w).met) ++ fallen_listed w l fresh
fallen_by w l e m f a₁ a₂ fresh pe pm pf p₁ p₂ = p₂ ∙ (λ j. (p₁ ∙ (λ i. pe i ++ fallen_listed w l (pm i))) j ++ fallen_listed w l (pf j))

pub all_fall : (w w₁ w₂ l fresh a f b : List ℕ) → BooksRules w → AreNew w l fresh → a ≡ fallen_listed w l (sessions (book_of w).met) ++ fallen_listed w l fresh → f ≡ fresh → b ≡ a
    → MakesBook w w₁ (met_now (book_of w) ((book_of w).met ++ map new f)) → MakesBook w₁ w₂ (behind_now (book_of w₁) ((book_of w₁).behind ++ b)) → BooksCalled w w₂ (m.all_fall_behind l) done
all_fall w w₁ w₂ l fresh a f b r g fa pf pb x y =
    let mk = after w w₁ w₂ (met_now (book_of w) ((book_of w).met ++ map new f)) (λ z. behind_now z (z.behind ++ b)) x y in
    let met = ap (λ (v : List ℕ). (book_of w).met ++ map new v) pf ∙ sym g.meets in
    let all = pb ∙ fa ∙ fallen_all w l fresh g in
    calls_done w w₂ (m.all_fall_behind l) done r
    (record { book = mk.book ∙ (λ j. behind_now (met_now (book_of w) (met j)) ((book_of w).behind ++ all j)); ruled = mk.ruled; rest = mk.rest }) refl
