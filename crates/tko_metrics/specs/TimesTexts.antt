-- Times as samples of a page.
use Rattle.std.specs.Prelude.{ℕ, List, [], ◌++◌, Option, Some, None, codes, decimal, flat_map}
use Rattle.tko_metrics.specs.declared.metrics.Metric.{Metric}
use Rattle.tko_metrics.specs.declared.times_reading.Bucket.{Bucket}
use Rattle.tko_metrics.specs.declared.times_reading.TimesReading.{TimesReading}
use Rattle.tko_metrics.specs.Metrics.{name_of}
use Rattle.tko_metrics.specs.Samples.{label_text, micros_text}

-- the address of a server as a label behind another one, where the times are those of a server
abbrev pub label_behind : Option (List ℕ) → List ℕ
label_behind None = []
label_behind (Some address) = codes ",server=\"" ++ label_text address ++ codes "\""

-- the same as the only label
abbrev pub only_label : Option (List ℕ) → List ℕ
only_label None = []
only_label (Some address) = codes "{server=\"" ++ label_text address ++ codes "\"}"

-- a sample of a bucket up to the end of its bound
unfoldable pub bucket_front : Metric → List ℕ → List ℕ
bucket_front metric bound = name_of metric ++ codes "_bucket{le=\"" ++ bound ++ codes "\""

unfoldable pub bucket_sample : Metric → Option (List ℕ) → Bucket → List ℕ
bucket_sample metric address bucket =
    bucket_front metric bucket.bound.now ++ label_behind address ++ codes "} "
    ++ decimal bucket.count ++ codes "\n"

-- the sum of all times, in seconds
unfoldable pub sum_sample : Metric → Option (List ℕ) → ℕ → List ℕ
sum_sample metric address sum =
    (name_of metric ++ codes "_sum") ++ only_label address ++ codes " " ++ micros_text sum
    ++ codes "\n"

-- how many times there were
unfoldable pub count_sample : Metric → Option (List ℕ) → ℕ → List ℕ
count_sample metric address count =
    (name_of metric ++ codes "_count") ++ only_label address ++ codes " " ++ decimal count
    ++ codes "\n"

abbrev pub buckets_text : Metric → Option (List ℕ) → List Bucket → List ℕ
buckets_text metric address buckets = flat_map (bucket_sample metric address) buckets

unfoldable pub times_text : Metric → Option (List ℕ) → TimesReading → List ℕ
times_text metric address times =
    buckets_text metric address times.buckets.items
    ++ sum_sample metric address times.sum ++ count_sample metric address times.count
