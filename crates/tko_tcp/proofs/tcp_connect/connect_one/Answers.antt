use Rattle.tko_tcp.proofs.TimeLemmas.{later_still}
use Rattle.tko_tcp.proofs.tcp_connect.connect_one.Goals as goal

pub returns-in_err-wait_until_connected : goal.returns-in_err-wait_until_connected
returns-in_err-wait_until_connected g c = later_still c.look.ensures.later c.wait_until_connected.ensures

pub returns-in_err-set_nonblocking : goal.returns-in_err-set_nonblocking
returns-in_err-set_nonblocking g c = later_still c.look.ensures.later c.wait_until_connected.ensures

pub returns : goal.returns
returns g c = later_still c.look.ensures.later c.wait_until_connected.ensures
