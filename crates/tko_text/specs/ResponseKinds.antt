-- The kind of a request in the code.
use Rattle.tko_text.specs.declared.response.kind.SentKind.TheVariants as kind
use Rattle.tko_text.specs.declared.response.kind.Expected.TheVariants.{Single, Listing}
use Rattle.tko_text.specs.declared.response.kind as code
use Rattle.tko_text.specs.Responses.RequestKind.{Listing as Several}
use Rattle.tko_text.specs.Responses.{RequestKind, Retrieval, Storage, Deletion, Counting, Touching, Probe}

abbrev pub kind_seen : code.SentKind.SentKind → RequestKind
kind_seen (kind.Retrieval key unique) = Retrieval key.now unique
kind_seen kind.Storage = Storage
kind_seen kind.Deletion = Deletion
kind_seen kind.Counting = Counting
kind_seen kind.Touching = Touching
kind_seen kind.Probe = Probe

abbrev pub expected : code.Expected.Expected → RequestKind
expected (Single kind) = kind_seen kind
expected (Listing keys unique) = Several keys.now unique
