pub mod EndTurns
