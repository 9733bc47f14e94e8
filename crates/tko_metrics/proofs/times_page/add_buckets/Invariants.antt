use Rattle.std.proofs.Common.{◌≡◌, ◌++◌, drop, flat_map, option_map}
use Rattle.tko_metrics.specs.TimesTexts.{bucket_sample}
use Rattle.tko_metrics.proofs.times_page.add_buckets.Given as goal

abbrev pub invariant-loop-bucket : goal.invariant-loop-bucket
invariant-loop-bucket l =
    let sample = bucket_sample l.metric (option_map (λ text. text.now) l.address) in
    l.out.items ++ flat_map sample (drop l.bucket-index l.buckets)
    ≡ l.initial.out.items ++ flat_map sample l.buckets
