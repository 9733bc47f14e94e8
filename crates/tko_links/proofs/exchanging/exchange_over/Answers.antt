use Rattle.tko_links.proofs.ExchangeLemmas.{exchange_done, exchange_refused, returned_counted}
use Rattle.tko_links.proofs.exchanging.exchange_over.Goals as goal

pub returns-in-Ok-clause-record : goal.returns-in-Ok-clause-record
returns-in-Ok-clause-record g c =
    rw c.close.ensures.returns (exchange_done c.send_and_receive-received.result c.in-Ok.ensures c.send_and_receive-received.ensures c.close.ensures.closes)

pub returns-in-Ok-clause-counted : goal.returns-in-Ok-clause-counted
returns-in-Ok-clause-counted g c = rw c.close.ensures.returns (returned_counted c.send_and_receive-received.result)

pub returns-in-Err-clause-record : goal.returns-in-Err-clause-record
returns-in-Err-clause-record g c = exchange_refused c.in-Err.ensures
