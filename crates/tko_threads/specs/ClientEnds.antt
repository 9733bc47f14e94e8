-- The two ends of a client, as its session meets them.
use Rattle.std.specs.Prelude.{◌≡◌, ◌⊎◌, ◌+◌, ◌++◌, ℕ, Bool, true, false, List, [], Result}
use Rattle.std.specs.Bool.{OnFalse, OnTrue}
use Rattle.tko_io.specs.declared.io.Inlet.{Ghosts as InletGhosts}
use Rattle.tko_io.specs.declared.io.Outlet.{Ghosts as OutletGhosts}
use Rattle.tko_io.specs.declared.io.Stop.{Stop}
use Rattle.tko_io.specs.Io.{faults_in, idles_in, moved}
use Rattle.tko_port.specs.declared.first_byte.FirstByte.{FirstByte}
use Rattle.tko_port.specs.FirstBytes.{IsTextGiven, is_binary}
use Rattle.tko_threads.specs.declared.attended.Attended.{Attended}
use Rattle.tko_threads.specs.declared.paced.Paced.{Paced}

-- more of a connection was given, of which this was known of the first byte before and after: what
-- was given in all is what that allows
pub record GivesMore (was : FirstByte) (bytes : List ℕ) (is : FirstByte) : Type 0 where
  pub given : (before : List ℕ) → IsTextGiven was before → IsTextGiven is (before ++ bytes)
  pub stays : OnTrue (is_binary was) (is_binary is ≡ true)

-- a read of the client's inlet gave this, and that was given on: the same, unless the client speaks
-- the binary protocol
pub record IsGivenOn (was : FirstByte) (buffer : List ℕ) (read result : Result ℕ Stop)
    (is : FirstByte) : Type 0 where
  pub more : GivesMore was (moved result buffer) is
  pub same : OnFalse (is_binary is) (result ≡ read)
  pub faults : faults_in result ≡ faults_in read
  pub idles : idles_in result ≡ idles_in read

-- between the two these bytes were given: those that the client's inlet gave, unless the client
-- speaks the binary protocol
pub record GivesOn {I M : Type 0} (gives : I → List ℕ → I → Type 0) (old : Attended I M)
    (bytes : List ℕ) (new : Attended I M) : Type 0 where
  pub more : GivesMore old.first bytes new.first
  pub gave : OnFalse (is_binary new.first) (gives old.inner bytes new.inner)

-- nothing more is given of a client that speaks the binary protocol, or that sends no more
abbrev pub IsGivenAll : {I M : Type 0} → (I → Type 0) → Attended I M → Type 0
IsGivenAll is_ended it = (is_binary it.first ≡ true) ⊎ is_ended it.inner

-- what a client sends, with the rounds that are due and the time that is over
abbrev pub attended : {I M : Type 0} → InletGhosts I → InletGhosts (Attended I M)
attended inlet = record {
  gives = λ a bytes b. GivesOn inlet.gives a bytes b;
  is_ended = λ a. IsGivenAll inlet.is_ended a;
  failures = λ a. inlet.failures a.inner + a.failures;
  idles = λ a. inlet.idles a.inner + a.idles;
}

-- what a client takes, with the times at which it was too slow
abbrev pub paced_outlet : {O M : Type 0} → OutletGhosts O → OutletGhosts (Paced O M)
paced_outlet outlet = record {
  takes = λ a bytes b. outlet.takes a.inner bytes b.inner;
  failures = λ a. outlet.failures a.inner + a.failures;
}
