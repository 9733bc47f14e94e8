use Rattle.serde_json.specs.View.{view}
use Rattle.tko_bytes.specs.Lines.{lines_of}
use Rattle.tko_explain.proofs.key_counts.KeyCounts.print_all.Goals as goal

pub returns : goal.returns
returns c = λ json list against is.
    let all = c.in_ok-end_list.ensures json list against is in
    record {
      root = view c.end_list.new.self.root;
      config = c.end_list.new.self.tally.config;
      other = c.end_list.new.self.tally.compared;
      is_root = all.is_read.is_root;
      meaning = all.is_read.meaning;
      compared = all.compared;
      prints = c.in_ok-text.ensures (lines_of list) all.tallied;
    }
