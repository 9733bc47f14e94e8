-- The text format of Prometheus.
use Rattle.std.specs.Prelude.{ℕ, ◌==◌, ◌||◌, ◌/◌, ◌%◌, if◌then◌else◌, List, [], ◌∷◌, ◌++◌, codes, decimal, flat_map}
use Rattle.tko_metrics.specs.declared.build.Build.{Build}
use Rattle.tko_metrics.specs.declared.metrics.Metric.{Metric}
use Rattle.tko_metrics.specs.declared.worker_meter.Ending.{Ending}
use Rattle.tko_metrics.specs.declared.worded.Worded.{Worded}
use Rattle.tko_metrics.specs.Metrics.{ending_word, help_of, metric_kind, metric_kind_word, name_of}

-- the two lines before the samples of a metric
unfoldable pub head_of : Metric → List ℕ
head_of metric =
    (codes "# HELP " ++ name_of metric ++ codes " " ++ help_of metric ++ codes "\n")
    ++ (codes "# TYPE " ++ name_of metric ++ codes " "
    ++ metric_kind_word (metric_kind metric) ++ codes "\n")

-- a metric of one sample
unfoldable pub single : Metric → ℕ → List ℕ
single metric number =
    head_of metric ++ (name_of metric ++ codes " " ++ decimal number ++ codes "\n")

-- a sample that has a word as the value of a label
unfoldable pub word_sample : Metric → List ℕ → List ℕ → ℕ → List ℕ
word_sample metric label word number =
    (name_of metric ++ codes "{" ++ label ++ codes "=\"" ++ word ++ codes "\"} ")
    ++ (decimal number ++ codes "\n")

-- a sample of the sessions that ended by a kind of fault
abbrev pub kind_sample : Metric → Ending → ℕ → List ℕ
kind_sample metric ending number =
    word_sample metric (codes "kind") (ending_word ending) number

-- a sample with its word as the value of a label
abbrev pub worded_sample : Metric → List ℕ → Worded → List ℕ
worded_sample metric label it = word_sample metric label it.word.now it.number

unfoldable pub words_text : Metric → List ℕ → List Worded → List ℕ
words_text metric label numbers = head_of metric ++ flat_map (worded_sample metric label) numbers

-- a sample of a worker
unfoldable pub worker_sample : Metric → ℕ → ℕ → List ℕ
worker_sample metric worker number =
    (name_of metric ++ codes "{worker=\"" ++ decimal worker ++ codes "\"} ")
    ++ (decimal number ++ codes "\n")

-- the byte `"`
abbrev pub quote : ℕ
quote = 34

-- the byte `\`
abbrev pub backslash : ℕ
backslash = 92

-- a byte between the quotes of a label: a quote and a backslash have a backslash before them
abbrev pub escaped_byte : ℕ → List ℕ
escaped_byte byte =
    if byte == quote || byte == backslash then backslash ∷ byte ∷ [] else byte ∷ []

-- a text between the quotes of a label
abbrev pub label_text : List ℕ → List ℕ
label_text text = flat_map escaped_byte text

-- the sample of a build, which is always 1
unfoldable pub build_sample : Metric → Build → List ℕ
build_sample metric build =
    (name_of metric ++ codes "{version=\"") ++ label_text build.version.now
    ++ codes "\",sources=\"" ++ label_text build.sources.now ++ codes "\"} 1\n"

-- a sample of the server of this address, up to the end of the address
unfoldable pub sample_front : Metric → List ℕ → List ℕ
sample_front metric address =
    (name_of metric ++ codes "{server=\"") ++ label_text address ++ codes "\""

-- a sample of a server
unfoldable pub server_sample : Metric → List ℕ → ℕ → List ℕ
server_sample metric address number =
    sample_front metric address ++ codes "} " ++ decimal number ++ codes "\n"

-- a sample of a server that has a word as the value of another label
unfoldable pub part_sample : Metric → List ℕ → List ℕ → List ℕ → ℕ → List ℕ
part_sample metric address label word number =
    sample_front metric address
    ++ (codes "," ++ label ++ codes "=\"" ++ word ++ codes "\"} ")
    ++ (decimal number ++ codes "\n")

-- how many milliseconds a second has
abbrev pub second : ℕ
second = 1000

-- a number below 1,000 as three digits
abbrev pub three_digits : ℕ → List ℕ
three_digits number =
    decimal (number / 100) ++ decimal (number / 10 % 10) ++ decimal (number % 10)

-- milliseconds as seconds, with three digits behind the point
unfoldable pub seconds_text : ℕ → List ℕ
seconds_text moment =
    decimal (moment / second) ++ codes "." ++ three_digits (moment % second)

-- a sample of a server that is a moment, in milliseconds
unfoldable pub moment_sample : Metric → List ℕ → ℕ → List ℕ
moment_sample metric address moment =
    sample_front metric address ++ codes "} " ++ seconds_text moment ++ codes "\n"

-- how many microseconds a second has
abbrev pub micros_in_second : ℕ
micros_in_second = 1000000

-- microseconds as seconds, with six digits behind the point
unfoldable pub micros_text : ℕ → List ℕ
micros_text micros =
    decimal (micros / micros_in_second) ++ codes "."
    ++ three_digits (micros % micros_in_second / second)
    ++ three_digits (micros % second)
