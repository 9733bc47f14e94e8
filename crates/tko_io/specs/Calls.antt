-- What a call of a reader or of a writer is to a session.
use Rattle.std.specs.Prelude.{◌≡◌, ℕ, Result}
use Rattle.std.specs.declared.io.Error.{Error}
use Rattle.tko_io.specs.Io.{read_result, write_result}
use Rattle.tko_io.specs.declared.io.Stop.{Stop}

-- one call of a reader was made, and what it returned is this to a session
pub record IsReadCall {T : Type 0} (came : T → Result ℕ Error → T → Type 0) (old : T)
    (result : Result ℕ Stop) (new : T) : Type 0 where
  pub returned : Result ℕ Error
  pub call : came old returned new
  pub is : result ≡ read_result returned

-- the same of a writer
pub record IsWriteCall {T : Type 0} (came : T → Result ℕ Error → T → Type 0) (old : T)
    (result : Result ℕ Stop) (new : T) : Type 0 where
  pub returned : Result ℕ Error
  pub call : came old returned new
  pub is : result ≡ write_result returned
