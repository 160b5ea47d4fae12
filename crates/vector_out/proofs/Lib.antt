pub mod LineByLine
pub mod PutPieceByPiece
pub mod GridLines
pub mod RunLines
pub mod RectanglesInside
