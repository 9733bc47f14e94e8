-- The words by which a fault names a key of a pool.
use Rattle.std.specs.Prelude.{ℕ, List, codes}
use Rattle.tko_pools.specs.declared.pool_key.PoolKey.{PoolKey}
use Rattle.tko_pools.specs.declared.pool_key.PoolKey.TheVariants as key

abbrev pub pool_key_word : PoolKey → List ℕ
pool_key_word key.Distribution = codes "distribution"
pool_key_word key.Hash = codes "hash"
pool_key_word key.HashTag = codes "hash-tag"
pool_key_word key.UnhashedPrefix = codes "unhashed-prefix"
pool_key_word key.Weights = codes "weights"
pool_key_word key.Names = codes "names"
