-- The limits in the lines that say why a text is no configuration, as digits.
use Rattle.std.proofs.Common.{◌≡◌, codes, decimal, refl}
use Rattle.std.specs.Fmt.{digits}
use Rattle.tko_pools.specs.RingServers.{max_weight}
use Rattle.tko_pools.specs.Routes.{max_exptime}
use Rattle.tko_explain.specs.Reasons.{soft_limit_flaw, too_many_text}

pub weight_digits : decimal max_weight ≡ codes "16777216"
unfolding digits
weight_digits = refl

pub exptime_digits : decimal max_exptime ≡ codes "2147483647"
unfolding digits
exptime_digits = refl

pub soft_limit_words : soft_limit_flaw ≡ codes " has a soft_limit that is no whole number from 0 to 256"
unfolding digits soft_limit_flaw
soft_limit_words = refl

pub too_many_words : too_many_text ≡ codes "the route has more than 256 servers"
unfolding digits too_many_text
too_many_words = refl
