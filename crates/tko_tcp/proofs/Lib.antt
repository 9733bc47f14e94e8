mod TcpLemmas
mod TimeLemmas
