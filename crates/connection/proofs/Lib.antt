mod FramesPosted
mod PiecePosted
mod DrainProgress
mod ReaderProgress
mod WriterProgress
mod WeightsCounted
mod WatchProgress
