-- A text cut at the end of its first line, as the crate of lines proves it.
pub use Rattle.lines.proofs.Cuts.{cut, length_on, length_stop, length_end, drop_beyond, lines_end, lines_at}
