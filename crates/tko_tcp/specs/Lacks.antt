-- What the proxy itself lacks where a connection could not be begun, by the error number of Linux.
use Rattle.std.specs.Prelude.{◌≡◌, ◌⊎◌, ℤ, pos, Some}
use Rattle.std.specs.IoError.{raw_os_error}
use Rattle.std.specs.declared.io.Error.{Error}
use Rattle.tko_tcp.specs.declared.lack.Lack.{Lack}
use Rattle.tko_tcp.specs.declared.lack.Lack.TheVariants.{Descriptors, Memory, Ports}

-- EADDRNOTAVAIL, EMFILE, ENFILE, ENOBUFS and ENOMEM
abbrev pub no_port : ℤ
no_port = pos 99

abbrev pub process_files : ℤ
process_files = pos 24

abbrev pub system_files : ℤ
system_files = pos 23

abbrev pub no_buffers : ℤ
no_buffers = pos 105

abbrev pub no_system_memory : ℤ
no_system_memory = pos 12

-- the error says that this was lacking
abbrev pub IsLacking : Lack → Error → Type 0
IsLacking Ports error = raw_os_error error ≡ Some no_port
IsLacking Descriptors error =
    (raw_os_error error ≡ Some process_files) ⊎ (raw_os_error error ≡ Some system_files)
IsLacking Memory error =
    (raw_os_error error ≡ Some no_buffers) ⊎ (raw_os_error error ≡ Some no_system_memory)
