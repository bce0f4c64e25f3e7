mod Usage
