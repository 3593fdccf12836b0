use Rattle.store_resend.proofs.go_on.Goals as goal

pub returns-then-kept-eq0 : goal.returns-then-kept-eq0
returns-then-kept-eq0 c = c.pass_over.ensures.carries _ _
