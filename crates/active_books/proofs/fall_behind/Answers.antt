use Rattle.std.proofs.Common.{rules, refl, List, ℕ, sym, ap, arith, ◌∙◌}
use mathlib.Core.Bool.{true≢false}
use Rattle.std.proofs.lemmas.Result.{err_from_is_err_and}
use Rattle.model_active.specs.CatchUp as m
use Rattle.active_books_area.specs.Words.{book_of}
use Rattle.active_books.proofs.Calling.{refuses_one, refuses_behind, same_count, falls_behind, ends_as}
use Rattle.active_books.proofs.fall_behind.Goals.{else-not-behind-via-then-not-behind+else-m-eq-MAX_SESSIONS, else-not-behind-via-else-not-behind}
use Rattle.active_books.proofs.fall_behind.Goals as goal

pub returns-then-m-eq-MAX_SESSIONS : goal.returns-then-m-eq-MAX_SESSIONS
returns-then-m-eq-MAX_SESSIONS c = refuses_behind c.args.words.now c.args.session c.in_ok-check_rules.ensures (c.is_behind-behind.ensures ∙ ap (λ (w : List ℕ). m.member c.args.session (book_of w).behind) c.view.ensures) c.if-not-behind.true c.if-m-eq-MAX_SESSIONS.true

pub returns-in_err-meet_if_room : goal.returns-in_err-meet_if_room
returns-in_err-meet_if_room c =
    let p = err_from_is_err_and c.from_residual-in_err-meet_if_room.result c.from_residual-in_err-meet_if_room.ensures.1 in
    rw (p.1, p.2) (ends_as (search rules) (refuses_one c.args.words.now c.meet_if_room.new.books.words.now c.args.session (m.fall_behind c.args.session) c.in_err-meet_if_room.field-0.0 refl c.in_ok-check_rules.ensures c.in_err-meet_if_room.ensures.meets))

pub join-requires-clause-room : goal.join-requires-clause-room
join-requires-clause-room c = λ absent.
    let count = same_count c.args.words.now c.meet_if_room.new.books.words.now c.args.session c.in_ok-meet_if_room.ensures.meets.makes in
    elim c.else-not-behind.branch [
      | else-not-behind-via-then-not-behind+else-m-eq-MAX_SESSIONS w ↦ omega (arith, count, w.if-m-eq-MAX_SESSIONS.false, c.in_ok-check_rules.ensures.few_behind)
      | else-not-behind-via-else-not-behind w ↦ absurd (true≢false (sym w.if-not-behind.false ∙ absent))
    ]

pub returns : goal.returns
returns c = ends_as (search rules) (falls_behind c.args.words.now c.meet_if_room.new.books.words.now c.join.new.books.words.now c.args.session _ c.in_ok-check_rules.ensures c.in_ok-meet_if_room.ensures.meets c.join.ensures.makes)
