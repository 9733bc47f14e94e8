use Rattle.std.proofs.Common.{length, ap, arith}
use Rattle.tko_text.proofs.BufferLemmas.{IsSearched-some, IsSearched-none, line_end-some, line_end-none}
use Rattle.tko_text.proofs.buffer.Buffer.line_end.Goals as goal

pub invariant_of-self : goal.invariant_of-self
invariant_of-self c =
    let found = rw (c.deref.ensures.value, c.in-Some.is) at c.memchr.ensures in
    IsSearched-some _ _ _ c.self.invariant _ found

pub invariant_of-self-in-None : goal.invariant_of-self-in-None
invariant_of-self-in-None c =
    let none = rw (c.deref.ensures.value, c.in-None.is) at c.memchr.ensures in
    IsSearched-none _ _ _ c.self.invariant _ (omega (arith, ap length c.deref.ensures.value)) none

pub returns-in-Some-clause-found : goal.returns-in-Some-clause-found
returns-in-Some-clause-found c =
    let found = rw (c.deref.ensures.value, c.in-Some.is) at c.memchr.ensures in
    rw (← c.self.view_is) (line_end-some _ _ _ _ c.self.invariant found)

pub returns-in-None-clause-found : goal.returns-in-None-clause-found
returns-in-None-clause-found c =
    let none = rw (c.deref.ensures.value, c.in-None.is) at c.memchr.ensures in
    rw (← c.self.view_is) (line_end-none _ _ _ c.self.invariant none)
