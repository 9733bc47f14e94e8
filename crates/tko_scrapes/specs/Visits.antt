-- One client's request and its answer.
use Rattle.std.specs.Prelude.{ℕ}
use Rattle.http_server.specs.declared.state.Config.{Config}

-- how many milliseconds a client may stay: to ask, to take its answer, and to close
abbrev pub page_time : ℕ
page_time = 5000

-- how many milliseconds a client stays at least where another one waits for its place
abbrev pub page_grace : ℕ
page_grace = 100

-- the nanoseconds of a millisecond
abbrev pub nanos_in_millisecond : ℕ
nanos_in_millisecond = 1000000

-- how many bytes the head of a request has at most
abbrev pub head_limit : ℕ
head_limit = 8192

-- how many bytes of an answer wait for a client at most
abbrev pub pending_limit : ℕ
pending_limit = 65536

-- the limits of a client, which may send no body
abbrev pub limits : Config
limits = record {
  limits = record {
    max_head_len = head_limit;
    max_extensions_len = head_limit;
    max_trailers_len = head_limit;
  };
  max_body_len = 0;
  max_pending = pending_limit;
  read_size = head_limit;
}
