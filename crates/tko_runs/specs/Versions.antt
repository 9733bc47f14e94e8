-- Versions of the text of schedules.
use Rattle.std.specs.Prelude.{ℕ, ◌==◌, if◌then◌else◌, length}
use Rattle.tko_model.specs.declared.layout.Layout.{Layout}
use Rattle.tko_model.specs.declared.layout.Layout.TheVariants as layout
use Rattle.tko_model.specs.Settings.{Settings}
use Rattle.tko_runs.specs.declared.version.Version.{Version}
use Rattle.tko_runs.specs.declared.version.Version.TheVariants.{One, Two, Three}

-- the layout whose ranges the settings of a schedule have
abbrev pub layout_of : Version → Layout
layout_of One = layout.One
layout_of Two = layout.One
layout_of Three = layout.Two

-- the number of header lines
abbrev pub header_lines : Version → ℕ
header_lines One = 7
header_lines Two = 8
header_lines Three = 8

-- the most that a version has
abbrev pub most_header_lines : ℕ
most_header_lines = 8

-- the version in whose form a claimed run is printed, which no schedule names
abbrev pub version_of : Settings → Version
version_of s = if length s.limits == 1 then One else Two
