-- What the workers of a server have descriptors for.
use Rattle.std.specs.Prelude.{◌+◌, ℕ, MatchOption, Option, Some, None, length, max}
use Rattle.tko_accept.specs.Allotments.{Fits, FitsEvents, HasClients, IsUnlimited, clients_without_limit, event_files, look_up_files}
use Rattle.tko_accept.specs.declared.allotment.Allotment.{Allotment}
use Rattle.tko_server.specs.declared.running.Options.{Options}

-- how many clients may be connected: as many as are asked for, but one in any case
abbrev pub clients_asked : Option ℕ → ℕ
clients_asked None = clients_without_limit
clients_asked (Some count) = max 1 count

-- as many workers, and as many clients, as the options ask for, or as there are descriptors for
abbrev pub IsEventAllotment : Options → Allotment → Type 0
IsEventAllotment options allotment =
    MatchOption options.open_files
    (HasClients (max 1 options.settings.threads) (clients_asked options.clients) allotment)
    (λ limit. FitsEvents limit (max 1 options.settings.threads)
    (length options.config.addresses + event_files) (clients_asked options.clients)
    allotment.workers allotment.clients)

-- of workers that serve one client at a time: as many as the options ask for, or as there are
-- descriptors for
abbrev pub IsThreadAllotment : Options → Allotment → Type 0
IsThreadAllotment options allotment =
    MatchOption options.open_files (IsUnlimited (max 1 options.settings.threads) allotment)
    (λ limit. Fits limit (max 1 options.settings.threads)
    (length options.config.addresses + look_up_files) allotment.workers allotment.clients)
