-- The limits of the settings. Where another crate names one of them, it imports it from here.
use Rattle.std.specs.Prelude.{ℕ}
use Rattle.tko_model.specs.declared.layout.Layout.{Layout}
use Rattle.tko_model.specs.declared.layout.Layout.TheVariants as layout

abbrev pub max_servers : ℕ
max_servers = 256

-- the most threads of a layout
abbrev pub max_threads : Layout → ℕ
max_threads layout.One = 64
max_threads layout.Two = 1024

-- the most soft failures in a row that a layout lets a server have before it is marked
abbrev pub max_failures : Layout → ℕ
max_failures layout.One = 1000
max_failures layout.Two = 4096

abbrev pub max_limit : ℕ
max_limit = 256

abbrev pub max_groups : ℕ
max_groups = 256

abbrev pub max_tries : ℕ
max_tries = 1000

-- from this stamp on an unmarked server is worn: 2^51 - 8
abbrev pub worn : ℕ
worn = 2251799813685240
