-- What all items of a connection mean, from its begin on.
use Rattle.std.proofs.Common.{ℕ, List, arith}
use Rattle.tko_model.specs.Records.{Gains}
use Rattle.tko_pipe.specs.Lives.{IsLife, IsPipeStep, PipeItem}
use Rattle.tko_pipe.specs.Pipes.{PipeState, opened_pipe}
use Rattle.tko_pipe.proofs.LifeLemmas.{leads}
use Rattle.tko_pipe.proofs.ProgressLemmas.{time_spent}
use Rattle.tko_pipe.proofs.QuittingLemmas.{all_quit}

-- the law of a connection's life
pub lives : (limit : ℕ) (items : List PipeItem) (state : PipeState)
    → Gains IsPipeStep (opened_pipe limit) items state → IsLife limit items state
lives limit items state gains =
    let all = leads (opened_pipe limit) state items tt gains.leads in
    record {
      queue = all.queue;
      quitters = all.quitters;
      quitting = all_quit (opened_pipe limit) state items gains.leads;
      forms = all.forms;
      written = all.written;
      read = all.read;
      answers = all.answers;
      asked_first = omega (arith, all.asked_first (omega arith));
      heard = all.heard;
      end = all.end;
      spent = time_spent limit items state;
    }
