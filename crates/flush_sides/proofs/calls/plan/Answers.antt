mod Shape
