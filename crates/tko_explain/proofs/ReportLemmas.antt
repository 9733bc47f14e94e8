-- What is printed of a configuration.
use Rattle.std.proofs.Common.{◌≡◌, ℕ, List, Some, sym, subst, ◌∙◌, ◌++◌}
use Rattle.serde_json.specs.Data.{Data}
use Rattle.serde_json.specs.Read.{read}
use Rattle.tko_pools.specs.Configs.{Configuration, IsMeaning, IsRoot, Means}
use Rattle.tko_pools.specs.Json.{pools_in}
use Rattle.tko_explain.specs.Reports.{AreWarningsOf, IsReport, IsWarnedOf, report_text, values_note}

-- a text has one root
pub is_report : (json : List ℕ) (keys : List (List ℕ)) (printed : List ℕ) (root pools : Data) (config : Configuration)
    (warnings : List ℕ) → Means json config → read json ≡ Some root → pools_in root ≡ Some pools
    → AreWarningsOf json root pools config warnings
    → printed ≡ report_text root pools config keys ++ warnings ++ values_note
    → IsReport json keys printed
is_report json keys printed root pools config warnings means reads has warned prints =
    let both : Some means.root ≡ Some root = sym means.is_root.json ∙ reads in
    let same : means.root ≡ root = cc in
    record {
      root = root;
      pools = pools;
      config = config;
      is_root = subst (λ it. IsRoot json it) same means.is_root;
      meaning = subst (λ it. IsMeaning it config) same means.meaning;
      has_pools = has;
      warnings = warnings;
      warned = warned;
      prints = prints;
    }

-- the same of its warnings alone
pub is_warned : (json text : List ℕ) (root pools : Data) (config : Configuration) → Means json config
    → read json ≡ Some root → pools_in root ≡ Some pools → AreWarningsOf json root pools config text
    → IsWarnedOf json text
is_warned json text root pools config means reads has warned =
    let both : Some means.root ≡ Some root = sym means.is_root.json ∙ reads in
    let same : means.root ≡ root = cc in
    record {
      root = root;
      pools = pools;
      config = config;
      is_root = subst (λ it. IsRoot json it) same means.is_root;
      meaning = subst (λ it. IsMeaning it config) same means.meaning;
      has_pools = has;
      warned = warned;
    }
