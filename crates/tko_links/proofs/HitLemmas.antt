-- What comes of the bytes of a hit.
use Rattle.std.proofs.Common.{ℕ, List, refl, Err, None}
use Rattle.tko_text.specs.declared.request.Request.{Request}
use Rattle.tko_text.specs.declared.response.fault.ReadFault.TheVariants.{Memory}
use Rattle.tko_text.specs.ResponseReads.{ReadsResponse}
use Rattle.tko_links.specs.Scripted.{ComesOfBytes}

-- memory may run out, whatever the bytes are
pub answers_none : (bytes : List ℕ) (request : Request) → ComesOfBytes bytes request None
unfolding ReadsResponse
answers_none bytes request = (Err Memory, tt, refl)
